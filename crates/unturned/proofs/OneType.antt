-- One type of a descriptor, at two places from which on two texts are alike.
-- Assumes nothing.
use Rattle.std.specs.Prelude.{Option, Some, None}
use Prim.Native.Nat.{ℕ, suc, ◌+◌, ◌≤◌, ◌<◌}
use native.Mathlib.Nat.{add-zero}
use native.Mathlib.Omega.{arith}
use mathlib.Core.Bool.{Bool, true, false}
use mathlib.Core.List.{List, [], ◌∷◌, ◌++◌}
use mathlib.Core.Path.{◌≡◌, refl, ◌∙◌, sym, ap}
use lib.Dec.{eqb}
use lib.ListN.{length, drop, length-drop}
use lib.Seq.{drop-drop, drop-append-add, get_or-drop}
use borrow.Author.Tests.{le-leb, lt-leb}
use Rattle.basics.specs.Ascii.{ascii}
use Rattle.basics.specs.Bytes.{byte_at}
use Rattle.basics.specs.Choice.{pick}
use Rattle.bytesearch.specs.Search.{first_in, first_from, run}
use Rattle.fieldtype.specs.Types.{brackets, class_type, base_type, type_behind, field_type_at, type_slots}
use Rattle.fieldtype.specs.declared.FieldType.{FieldType}
use Rattle.unturned.proofs.Alike.{is_other, no_other, Strangers, only_one, one_more, Alike, both_end, same_byte, strange_runs}
use Rattle.unturned.proofs.Alike.{Headed, headed, Start, no_byte, one_byte, strange_bytes, start}

-- ---- what remains from a place on

module _ (text : List ℕ) (i : ℕ) where
  pub past : drop i text ≡ [] → length text ≤ i
  past e = omega (arith, length-drop i text, ap length e)

  module _ {x : ℕ} {rest : List ℕ} (e : drop i text ≡ x ∷ rest) where
    pub inside : i < length text
    inside = omega (arith, length-drop i text, ap length e)

    pub byte_is : byte_at text i ≡ x
    byte_is =
        ap (λ (k : ℕ). byte_at text k) (sym (add-zero i)) ∙ sym (get_or-drop i text 0 0) ∙ ap (λ (l : List ℕ). byte_at l 0) e

    pub rest_is : drop (i + 1) text ≡ rest
    rest_is = sym (drop-drop 1 i text) ∙ ap (drop 1) e

-- ---- brackets

record Opened (xs ys : List ℕ) : Type 0 where
  dims : ℕ
  first : brackets xs ≡ dims
  second : brackets ys ≡ dims
  behind : Alike (drop dims xs) (drop dims ys)

no_bracket : {xs : List ℕ} → Headed xs → brackets xs ≡ 0
unfolding run
no_bracket h = rw (h.is, is_other h.strange 91 tt)

opened : {xs ys : List ℕ} → Alike xs ys → Opened xs ys
unfolding run
opened both_end = record { dims = 0; first = refl; second = refl; behind = both_end }
opened (same_byte {x} {text} {turned} alike) = by_byte (eqb x 91) refl (opened alike)
  where
    by_byte : (b : Bool) → eqb x 91 ≡ b → Opened text turned → Opened (x ∷ text) (x ∷ turned)
    by_byte true e o =
        record {
          dims = suc o.dims;
          first = rw e (omega (arith, o.first));
          second = rw e (omega (arith, o.second));
          behind = o.behind;
        }
    by_byte false e o = record { dims = 0; first = rw e; second = rw e; behind = same_byte alike }
opened (strange_runs {run} {other} {text} {turned} s r alike) =
    record {
      dims = 0;
      first = no_bracket (headed s text);
      second = no_bracket (headed r turned);
      behind = strange_runs s r alike;
    }

-- ---- the first semicolon

-- places found from i and from j on, behind which the texts are alike
data FoundAlike (xs ys : List ℕ) (i j : ℕ) : Option ℕ → Option ℕ → Type 0 where
  none_found : FoundAlike xs ys i j None None
  both_found :
      {p q : ℕ} (a b : ℕ) → p + 1 ≡ i + a → q + 1 ≡ j + b → Alike (drop a xs) (drop b ys) → FoundAlike xs ys i j (Some p) (Some q)

-- a run has no semicolon
passed : {run : List ℕ} → Strangers run → (text : List ℕ) (i : ℕ) → first_in 59 (run ++ text) i ≡ first_in 59 text (i + length run)
unfolding first_in
passed (only_one {x} s) text i = rw (is_other s 59 tt)
passed (one_more {x} {xs} s more) text i =
    let far : i + 1 + length xs ≡ i + suc (length xs) = omega arith in
    rw (is_other s 59 tt) (passed more text (i + 1) ∙ ap (first_in 59 text) far)

found_alike : {xs ys : List ℕ} → Alike xs ys → (i j : ℕ) → FoundAlike xs ys i j (first_in 59 xs i) (first_in 59 ys j)
unfolding first_in
found_alike both_end i j = none_found
found_alike (same_byte {x} {text} {turned} alike) i j = by_byte (eqb x 59) (found_alike alike (i + 1) (j + 1))
  where
    onward : {f g : Option ℕ} → FoundAlike text turned (i + 1) (j + 1) f g → FoundAlike (x ∷ text) (x ∷ turned) i j f g
    onward none_found = none_found
    onward (both_found {p} {q} a b e f behind) = both_found {p = p} {q = q} (suc a) (suc b) (omega (arith, e)) (omega (arith, f)) behind

    by_byte :
        (b : Bool) → FoundAlike text turned (i + 1) (j + 1) (first_in 59 text (i + 1)) (first_in 59 turned (j + 1)) →
        FoundAlike (x ∷ text) (x ∷ turned) i j (pick b (Some i) (first_in 59 text (i + 1))) (pick b (Some j) (first_in 59 turned (j + 1)))
    by_byte true later = both_found 1 1 refl refl alike
    by_byte false later = onward later
found_alike (strange_runs {run} {other} {text} {turned} s r alike) i j =
    rw (passed s text i, passed r turned j) (onward (found_alike alike (i + length run) (j + length other)))
  where
    onward :
        {f g : Option ℕ} → FoundAlike text turned (i + length run) (j + length other) f g →
        FoundAlike (run ++ text) (other ++ turned) i j f g
    onward none_found = none_found
    onward (both_found {p} {q} a b e f behind) =
        both_found {p = p} {q = q} (length run + a) (length other + b) (omega (arith, e)) (omega (arith, f))
        (rw (drop-append-add run text a, drop-append-add other turned b) behind)

-- ---- one type

module _ (text turned : List ℕ) where
  -- from these places on they are alike
  abbrev pub Meet : ℕ → ℕ → Type 0
  Meet i j = Alike (drop i text) (drop j turned)

  -- readable in both or in neither, with the same slots, and alike behind
  pub data TakenAlike : Option FieldType → Option FieldType → Type 0 where
    none_taken : TakenAlike None None
    both_taken : {f g : FieldType} → type_slots f ≡ type_slots g → Meet f.next g.next → TakenAlike (Some f) (Some g)

  class_alike :
      (dims i j : ℕ) {f g : Option ℕ} → FoundAlike (drop i text) (drop j turned) i j f g →
      TakenAlike (class_type dims i f) (class_type dims j g)
  unfolding type_slots
  class_alike dims i j none_found = none_taken
  class_alike dims i j (both_found {p} {q} a b e f behind) =
      let meet : Meet (p + 1) (q + 1) = rw (e, f, ← drop-drop a i text, ← drop-drop b j turned) behind in
      both_taken refl meet

  base_alike :
      (x dims i j : ℕ) (found : Option ℕ) → Meet i j → TakenAlike (base_type x dims i found) (base_type x dims j found)
  unfolding type_slots
  base_alike x dims i j (Some k) meet = both_taken refl meet
  base_alike x dims i j None meet = none_taken

  behind_alike : (dims i j : ℕ) → Meet i j → TakenAlike (type_behind text dims i) (type_behind turned dims j)
  unfolding type_behind first_from first_in
  behind_alike dims i j meet = of (start meet)
    where
      by_byte :
          (b : Bool) (x : ℕ) → Meet (i + 1) (j + 1) →
          TakenAlike
          (pick b (class_type dims (i + 1) (first_from 59 text (i + 1))) (base_type x dims (i + 1) (first_from x (ascii "BCDFIJSZ") 0)))
          (pick b (class_type dims (j + 1) (first_from 59 turned (j + 1))) (base_type x dims (j + 1) (first_from x (ascii "BCDFIJSZ") 0)))
      by_byte true x next = class_alike dims (i + 1) (j + 1) (found_alike next (i + 1) (j + 1))
      by_byte false x next = base_alike x dims (i + 1) (j + 1) (first_from x (ascii "BCDFIJSZ") 0) next

      of : Start (drop i text) (drop j turned) → TakenAlike (type_behind text dims i) (type_behind turned dims j)
      of (no_byte p q) = rw (le-leb (length text) i (past text i p), le-leb (length turned) j (past turned j q)) none_taken
      of (one_byte x xs ys p q next) =
          rw (lt-leb (length text) i (inside text i p), lt-leb (length turned) j (inside turned j q), byte_is text i p, byte_is turned j q)
          (by_byte (eqb x 76) x (rw (rest_is text i p, rest_is turned j q) next))
      of (strange_bytes h k) =
          rw (unread text i h, unread turned j k) none_taken
        where
          unread : (whole : List ℕ) (at : ℕ) → Headed (drop at whole) → type_behind whole dims at ≡ None
          unread whole at h =
              rw (
                lt-leb (length whole) at (inside whole at h.is),
                byte_is whole at h.is,
                is_other h.strange 76 tt,
                no_other h.strange 66 tt,
                no_other h.strange 67 tt,
                no_other h.strange 68 tt,
                no_other h.strange 70 tt,
                no_other h.strange 73 tt,
                no_other h.strange 74 tt,
                no_other h.strange 83 tt,
                no_other h.strange 90 tt,
              )

  pub taken_alike : (i j : ℕ) → Meet i j → TakenAlike (field_type_at text i) (field_type_at turned j)
  unfolding field_type_at
  taken_alike i j meet =
      let o = opened meet in
      rw (o.first, o.second)
      (behind_alike o.dims (i + o.dims) (j + o.dims) (rw (← drop-drop o.dims i text, ← drop-drop o.dims j turned) o.behind))
