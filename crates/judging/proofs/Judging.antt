-- A turn of the walk over the parameters: what the definition reads from here is what it reads from the start.
-- Assumes nothing.
use Rattle.std.specs.Prelude.{Some, None, Ok, Err}
use Prim.Native.Nat.{ℕ, suc, ◌+◌, ◌-◌, ◌≤◌, ◌<◌}
use native.Mathlib.Omega.{arith}
use mathlib.Core.Path.{◌≡◌, refl, ◌∙◌, sym, ap}
use mathlib.Core.Bool.{false}
use mathlib.Core.List.{List, [], ◌∷◌}
use lib.Dec.{eqb}
use borrow.Author.Tests.{eq-eqb, ne_eqb}
use lib.ListN.{length, get_or}
use Rattle.jtype.specs.OneType.{Next, type_at}
use Rattle.refusal.specs.declared.Refusal.TheVariants.{MissingOpening}
use Rattle.jtype.specs.declared.TypeRecord.{TypeRecord}
use Rattle.jtype.proofs.Ends.{type_within}
use Rattle.judging.specs.Reading.{Reading, types, refused, after, return_at, parameter, parameters_at, method_reading}
use Rattle.judging.specs.Judged.{Answer, judged, raised}

-- the turns that are left are enough from this place on
pub record Enough (text : List ℕ) (at left : ℕ) : Type 0 where
  pub inside : at ≤ length text
  pub turns : length text < at + left

-- a type that was read has a byte, and ends within the text
pub type_ends :
    (text : List ℕ) (at : ℕ) (t : TypeRecord) (end : ℕ) → type_at text at ≡ Ok (Some (t, end)) → (at < end) × (end ≤ length text)
type_ends text at t end e = rw e at (type_within text at)

-- a `)` stands within the text
pub close_inside : (text : List ℕ) (at : ℕ) → type_at text at ≡ Ok None → at < length text
close_inside text at e = rw e at (type_within text at)

pub enough_more :
    (text : List ℕ) (at left end : ℕ) → Enough text at left → at < end → end ≤ length text → Enough text end (left - 1)
enough_more text at left end e h k = let t = e.turns in record { inside = k; turns = omega arith }

pub turn :
    (text : List ℕ) (at left : ℕ) → Enough text at left →
    parameters_at left text at ≡ parameter (type_at text at) (parameters_at (left - 1) text) (return_at text (at + 1))
unfolding parameters_at
turn text at left e =
    let i = e.inside in
    let t = e.turns in
    let one : left ≡ suc (left - 1) = omega arith in
    ap (λ (n : ℕ). parameters_at n text at) one

-- the opening
pub empty : (text : List ℕ) → length text ≡ 0 → refused MissingOpening ≡ method_reading text
unfolding method_reading
empty [] e = refl
empty (x ∷ text) e = absurd (omega arith)

pub not_opened : (text : List ℕ) → (get_or text 0 0 ≡ 40 → ⊥) → refused MissingOpening ≡ method_reading text
unfolding method_reading
not_opened text other = rw (ne_eqb _ _ other)

pub opened : (text : List ℕ) → get_or text 0 0 ≡ 40 → parameters_at (length text) text 1 ≡ method_reading text
unfolding method_reading
opened text e = rw (eq-eqb _ _ e)

-- ---- judging

raised_none : (a : Answer) → raised 0 a ≡ a
raised_none (Ok n) = ap Ok (omega arith)
raised_none (Err r) = refl

raised_more : (count : ℕ) (t : TypeRecord) (R : Reading) → raised count (judged (after t R)) ≡ raised (count + 1) (judged R)
raised_more count t (types ts) = ap Ok (omega arith)
raised_more count t (refused r) = refl

-- So many types were read up to this place, and the rest is judged from here on. Each took a turn.
pub record Judging (text : List ℕ) (at count : ℕ) : Type 0 where
  pub inside : at ≤ length text
  pub few : count < at
  pub from_here : raised count (judged (parameters_at (length text - count) text at)) ≡ judged (method_reading text)

pub start : (text : List ℕ) → get_or text 0 0 ≡ 40 → Judging text 1 0
start [] e = absurd (omega arith)
start (x ∷ text) e =
    let all : length (x ∷ text) - 0 ≡ length (x ∷ text) = omega arith in
    record {
      inside = omega arith;
      few = omega arith;
      from_here = rw (all, raised_none) (ap judged (opened (x ∷ text) e));
    }

module _ (text : List ℕ) (at count : ℕ) (g : Judging text at count) where
  pub here :
      (n : Next) → type_at text at ≡ n →
      raised count (judged (parameter n (parameters_at (length text - count - 1) text) (return_at text (at + 1)))) ≡ judged (method_reading text)
  here n e = rw (turn text at (length text - count) (record { inside = g.inside; turns = omega (arith, g.inside, g.few) }), e) at g.from_here

  pub more :
      (t : TypeRecord) (end : ℕ) → type_at text at ≡ Ok (Some (t, end)) → eqb t.letter 86 ≡ false → Judging text end (count + 1)
  more t end e v =
      let f = g.few in
      let ends = type_ends text at t end e in
      let fewer : length text - count - 1 ≡ length text - (count + 1) = omega arith in
      record {
        inside = ends.1;
        few = omega (arith, ends.0);
        from_here = sym (raised_more count t (parameters_at (length text - (count + 1)) text end)) ∙ rw (v, fewer) at (here (Ok (Some (t, end))) e);
      }
