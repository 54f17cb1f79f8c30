-- Where a list of parameters ends, and what that says of the return.
-- Assumes nothing.
use Rattle.std.specs.Prelude.{Option, Some, None}
use Rattle.std.proofs.lemmas.Option.{same_Some, none-some}
use Prim.Native.Nat.{ℕ, zero, suc, ◌+◌, ◌≤◌, ◌<◌}
use native.Mathlib.Nat.{eq-or-lt_of_le}
use native.Mathlib.Omega.{arith}
use mathlib.Core.Logic.{⊎_elim}
use mathlib.Core.Path.{◌≡◌, refl, ◌∙◌, sym, ap, subst}
use mathlib.Core.Bool.{Bool, true, false}
use mathlib.Core.List.{List, [], ◌∷◌}
use lib.Dec.{eqb, lit≤}
use lib.ListN.{length, take, drop}
use borrow.Author.Tests.{eqb-true, le-leb, lt-leb}
use Rattle.basics.specs.Bytes.{byte_at}
use Rattle.basics.specs.Choice.{pick}
use Rattle.descriptor.specs.Readers.{slots_of, judged, parameters, closing, byte_slots, slots_behind, return_slots}
use Rattle.descriptor.specs.declared.Params.{Params}
use Rattle.descriptor.proofs.Return.{behind_end, behind_none}
use Rattle.bytesearch.specs.Search.{first_in, first_from}
use Rattle.fieldtype.specs.Types.{field_type_at, taken_inside, types_step, list_over, types_from, types_at, types_of}
use Rattle.fieldtype.proofs.Bounds.{taken-inside}
use Rattle.bytesearch.proofs.Search.{found_here, found_nowhere}
use Rattle.fieldtype.specs.declared.FieldType.{FieldType}
use Rattle.jvms.specs.Descriptor.{int, base, class, void, typed, MethodType, render, render_all, render_return, render_method, WellFormed, WellFormedMethod}
use Rattle.descriptors.specs.Place.{first_place, first_return, last_place, Returns, occurs, NoneBefore, ReturnPlace}
use Rattle.descriptors.proofs.Agree.{lenient_agrees}

-- ---- where a list ends

-- at a `)`, or with the text
abbrev Ended : List ℕ → ℕ → Type 0
Ended text end = (end ≤ length text) × (end < length text → byte_at text end ≡ 41)

-- a text that starts with a byte other than 0 is not empty
not-empty : (text : List ℕ) → byte_at text 0 ≡ 40 → 1 ≤ length text
not-empty [] e = absurd (omega (arith, e))
not-empty (x ∷ xs) e = omega arith

ended_at : {n : ℕ} (at : ℕ) (p : Params) → Some (record { slots = n; end = at }) ≡ Some p → at ≡ p.end
ended_at at p e = ap (λ (q : Params). q.end) (same_Some _ p e)

module _ (text : List ℕ) where
  over_ended : (at : ℕ) → at ≤ length text → list_over text at ≡ true → Ended text at
  over_ended at inside o = (inside, λ below. eqb-true (byte_at text at) 41 (rw (lt-leb (length text) at below) at o))

  from_ended :
      (k at n : ℕ) (p : Params) → at ≤ length text → length text ≤ at + k → judged (types_from text k at) n ≡ Some p →
      Ended text p.end
  unfolding types_from judged
  from_ended zero at n p inside enough e =
      let same : at ≡ p.end = ended_at at p e in (omega arith, λ below. absurd (omega arith))
  from_ended (suc k) at n p inside enough e =
      by_step (list_over text at) refl (field_type_at text at) (taken-inside text at) e
      (λ next onward within. from_ended k next n p within (omega arith))
    where
      by_step :
          (b : Bool) → list_over text at ≡ b → (t : Option FieldType) → taken_inside t text at →
          judged (types_step b t at (λ next. types_from text k next)) n ≡ Some p →
          ((next : ℕ) → at < next → next ≤ length text → judged (types_from text k next) n ≡ Some p → Ended text p.end) →
          Ended text p.end
      by_step true o t here q later = let same : at ≡ p.end = ended_at at p q in subst (Ended text) same (over_ended at inside o)
      by_step false o (Some t) here q later = later t.next (omega (arith, here.onward)) here.within q
      by_step false o None here q later = absurd (none-some p q)

  list_ended : (p : Params) → parameters text ≡ Some p → Ended text p.end
  unfolding parameters types_of types_at
  list_ended p e = by_test (eqb (byte_at text 0) 40) refl e
    where
      by_test :
          (b : Bool) → eqb (byte_at text 0) 40 ≡ b →
          pick b (judged (types_from text (length text) 1) (slots_of (types_from text (length text) 1))) None ≡ Some p →
          Ended text p.end
      by_test true o q = from_ended (length text) 1 _ p (not-empty text (eqb-true (byte_at text 0) 40 o)) (omega arith) q
      by_test false o q = absurd (none-some p q)

-- ---- the first parenthesis

-- where none stands before a place, the search may begin there
search_from :
    (text : List ℕ) (end from : ℕ) → occurs 41 (take end text) ≡ 0 → first_in 41 text from ≡ first_in 41 (drop end text) (from + end)
unfolding first_in
search_from [] zero from none = refl
search_from [] (suc end) from none = refl
search_from (x ∷ xs) zero from none = ap (first_in 41 (x ∷ xs)) (omega arith)
search_from (x ∷ xs) (suc end) from none = by_test (eqb x 41) none (search_from xs end (from + 1))
  where
    by_test :
        (b : Bool) → pick b 1 0 + occurs 41 (take end xs) ≡ 0 →
        (occurs 41 (take end xs) ≡ 0 → first_in 41 xs (from + 1) ≡ first_in 41 (drop end xs) (from + 1 + end)) →
        pick b (Some from) (first_in 41 xs (from + 1)) ≡ first_in 41 (drop end xs) (from + suc end)
    by_test true z further = absurd (omega arith)
    by_test false z further = further (omega arith) ∙ ap (first_in 41 (drop end xs)) (omega arith)

first_is : (text : List ℕ) (end : ℕ) → NoneBefore text end → first_place text ≡ first_from 41 text end
unfolding first_place first_from
first_is text end none = search_from text end 0 none ∙ ap (first_in 41 (drop end text)) (omega arith)

-- none stands before the first
first_alone : (text : List ℕ) (end from : ℕ) → first_in 41 text from ≡ Some (from + end) → occurs 41 (take end text) ≡ 0
unfolding first_in
first_alone [] zero from e = refl
first_alone [] (suc end) from e = refl
first_alone (x ∷ xs) zero from e = refl
first_alone (x ∷ xs) (suc end) from e = by_test (eqb x 41) e (first_alone xs end (from + 1))
  where
    by_test :
        (b : Bool) → pick b (Some from) (first_in 41 xs (from + 1)) ≡ Some (from + suc end) →
        (first_in 41 xs (from + 1) ≡ Some (from + 1 + end) → occurs 41 (take end xs) ≡ 0) →
        pick b 1 0 + occurs 41 (take end xs) ≡ 0
    by_test true q further = let same : from ≡ from + suc end = cc in absurd (omega arith)
    by_test false q further = omega (arith, further (q ∙ ap Some (omega arith)))

plain-if-first : (text : List ℕ) (end : ℕ) → first_place text ≡ Some end → NoneBefore text end
unfolding first_place first_from
plain-if-first text end e = first_alone text end 0 (e ∙ ap Some (omega arith))

-- ---- what that says of the return

module _ (text : List ℕ) (p : Params) (read : parameters text ≡ Some p) where
  nothing_behind : length text ≤ p.end + 1 → return_slots text ≡ None
  unfolding slots_behind
  nothing_behind past = behind_end text p read ∙ rw (le-leb (length text) (p.end + 1) past)

  byte-behind : p.end + 1 < length text → return_slots text ≡ Some (byte_slots (byte_at text (p.end + 1)))
  unfolding slots_behind
  byte-behind below = behind_end text p read ∙ rw (lt-leb (length text) (p.end + 1) below)

  same_place : first_place text ≡ Some p.end → return_slots text ≡ first_return text
  same_place first = behind_end text p read ∙ ap (slots_behind text) (sym first)

  same-if-plain : NoneBefore text p.end → return_slots text ≡ first_return text
  unfolding slots_behind
  same-if-plain none =
      let first : first_place text ≡ first_from 41 text p.end = first_is text p.end none in
      let stop = list_ended text p read in
      ⊎_elim
      (λ (all : p.end ≡ length text).
      nothing_behind (omega arith) ∙ sym (ap (slots_behind text) (first ∙ sym (found_nowhere text p.end 41 (omega arith)))))
      (λ (below : p.end < length text). same_place (first ∙ sym (found_here text p.end 41 below (stop.1 below))))
      (eq-or-lt_of_le stop.0)

-- ---- the end of the list, the first parenthesis and the last

the-end : Returns closing
unfolding return_slots
the-end m well = lenient_agrees.same_return m well

-- a class named by a, a parenthesis and a letter
lettered : (x : ℕ) → (x ≡ 59 → ⊥) → WellFormed (class (97 ∷ 41 ∷ x ∷ []))
lettered x other = record { named = (λ e. omega (arith, e), (λ e. omega (arith, e), (other, tt))); shallow = lit≤ tt }

-- (La)J;)V
not-the-first : Returns first_place → ⊥
unfolding first_place first_from first_in slots_behind render_method render_all render_return render
not-the-first returns =
    let m : MethodType = record { parameters = class (97 ∷ 41 ∷ 74 ∷ []) ∷ []; result = void } in
    let well : WellFormedMethod m = record { parameters = (lettered 74 (λ e. omega (arith, e)), tt); result = tt } in
    omega (arith, same_Some 2 0 (returns m well))

-- (I)La)V;
not-the-last : Returns last_place → ⊥
unfolding slots_behind render_method render_all render_return render
not-the-last returns =
    let m : MethodType = record { parameters = base int ∷ []; result = typed (class (97 ∷ 41 ∷ 86 ∷ [])) } in
    let whole : WellFormed (base int) = record { named = tt; shallow = lit≤ tt } in
    let well : WellFormedMethod m = record { parameters = (whole, tt); result = lettered 86 (λ e. omega (arith, e)) } in
    omega (arith, same_Some 0 1 (returns m well))

-- ---- the statements

pub return_place : ReturnPlace
return_place =
    record {
      the_end = λ m well. the-end m well;
      not_the_first = not-the-first;
      not_the_last = not-the-last;
      ends_at_parenthesis = λ text p read. (list_ended text p read).1;
      ends_inside = λ text p read. (list_ended text p read).0;
      none_unread = behind_none;
      none_behind = nothing_behind;
      byte_behind = byte-behind;
      same_at_first = same_place;
      same_if_plain = same-if-plain;
      plain_if_first = plain-if-first;
    }
