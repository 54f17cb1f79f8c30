-- Writing the numbers of a text that was judged: what is still to be written over what stands gives the whole.
-- Assumes nothing.
use Rattle.std.specs.Prelude.{Some, None, Ok, Err}
use Prim.Native.Nat.{ℕ, ◌+◌, ◌-◌, ◌*◌, ◌≤◌}
use native.Mathlib.Omega.{arith}
use mathlib.Core.Path.{◌≡◌, refl, ◌∙◌, ap}
use mathlib.Core.Bool.{Bool, true, false}
use mathlib.Core.List.{List, [], ◌∷◌}
use lib.Dec.{eqb}
use borrow.Author.Tests.{eqb-true, eqb-false}
use lib.ListN.{length}
use Rattle.basics.specs.Parts.{overlaid}
use Rattle.basics.proofs.Parts.{overlaid_more}
use Rattle.jtype.specs.OneType.{Next, type_at}
use Rattle.jtype.specs.declared.TypeRecord.{TypeRecord}
use Rattle.judging.specs.Reading.{Reading, types, refused, after, return_at, parameter, parameters_at, method_reading}
use Rattle.jdescriptor.specs.Answer.{four, numbers_of, IsTypes, records_of}
use Rattle.judging.proofs.Judging.{Enough, enough_more, type_ends, turn, empty, not_opened, opened}

-- the types that are left fit from place k on, and written there they give what is wanted
pub record Filling (R : Reading) (cells : List ℕ) (k : ℕ) (wanted : List ℕ) : Type 0 where
  pub are : IsTypes R
  pub room : k + 4 * length (records_of R) ≤ length cells
  pub from_here : overlaid k (numbers_of (records_of R)) cells ≡ wanted

one_fits :
    (t : TypeRecord) (R : Reading) (cells : List ℕ) (k : ℕ) (wanted : List ℕ) → Filling (after t R) cells k wanted →
    k + 4 ≤ length cells
one_fits t (types ts) cells k wanted f = omega (arith, f.room)
one_fits t (refused r) cells k wanted f = absurd f.are

one_written :
    (t : TypeRecord) (R : Reading) (cells : List ℕ) (k : ℕ) (wanted : List ℕ) → Filling (after t R) cells k wanted →
    (cells₁ : List ℕ) → cells₁ ≡ overlaid k (four t) cells → length cells₁ ≡ length cells → Filling R cells₁ (k + 4) wanted
unfolding numbers_of
one_written t (types ts) cells k wanted f cells₁ q same =
    let room = f.room in
    record {
      are = tt;
      room = omega arith;
      from_here =
          ap (overlaid (k + 4) (numbers_of ts)) q ∙ overlaid_more (four t) (numbers_of ts) cells k (omega arith) ∙ f.from_here;
    }
one_written t (refused r) cells k wanted f cells₁ q same = absurd f.are

-- the numbers so far stand in the cells, and the types from this place on give the rest of what is wanted
pub record Writing (text d cells : List ℕ) (at k : ℕ) : Type 0 where
  pub left : ℕ
  pub enough : Enough text at left
  pub filling : Filling (parameters_at left text at) cells k (overlaid 0 (numbers_of (records_of (method_reading text))) d)
  pub same : length cells ≡ length d

-- a turn of the filling walk over a text that was accepted
module _ (text d cells : List ℕ) (at k : ℕ) (w : Writing text d cells at k) where
  abbrev wanted : List ℕ
  wanted = overlaid 0 (numbers_of (records_of (method_reading text))) d

  here : (n : Next) → type_at text at ≡ n → Filling (parameter n (parameters_at (w.left - 1) text) (return_at text (at + 1))) cells k wanted
  here n e = rw (turn text at w.left w.enough, e) at w.filling

  -- an accepted parameter is not void
  one_more :
      (t : TypeRecord) (end : ℕ) → type_at text at ≡ Ok (Some (t, end)) →
      Filling (after t (parameters_at (w.left - 1) text end)) cells k wanted
  one_more t end e = by (eqb t.letter 86) refl (here (Ok (Some (t, end))) e)
    where
      by :
          (b : Bool) → eqb t.letter 86 ≡ b →
          Filling (parameter (Ok (Some (t, end))) (parameters_at (w.left - 1) text) (return_at text (at + 1))) cells k wanted →
          Filling (after t (parameters_at (w.left - 1) text end)) cells k wanted
      by true v g = absurd (rw v at g).are
      by false v g = rw v at g

  pub fits : (t : TypeRecord) (end : ℕ) → type_at text at ≡ Ok (Some (t, end)) → k + 4 ≤ length cells
  fits t end e = one_fits t (parameters_at (w.left - 1) text end) cells k wanted (one_more t end e)

  pub filled :
      (t : TypeRecord) (end : ℕ) → type_at text at ≡ Ok (Some (t, end)) →
      (cells₁ : List ℕ) → cells₁ ≡ overlaid k (four t) cells → length cells₁ ≡ length cells → Writing text d cells₁ end (k + 4)
  filled t end e cells₁ q same =
      let ends = type_ends text at t end e in
      record {
        left = w.left - 1;
        enough = enough_more text at w.left end w.enough ends.0 ends.1;
        filling = one_written t (parameters_at (w.left - 1) text end) cells k wanted (one_more t end e) cells₁ q same;
        same = same ∙ w.same;
      }

  -- behind the parameters stands the return
  pub closing : ((t : TypeRecord) (end : ℕ) → type_at text at ≡ Ok (Some (t, end)) → ⊥) → Filling (return_at text (at + 1)) cells k wanted
  closing over = by (type_at text at) refl
    where
      by : (n : Next) → type_at text at ≡ n → Filling (return_at text (at + 1)) cells k wanted
      by (Ok (Some (t, end))) e = absurd (over t end e)
      by (Ok None) e = here (Ok None) e
      by (Err r) e = absurd (here (Err r) e).are

-- an accepted text has an opening parenthesis
pub begun :
    (text d : List ℕ) → IsTypes (method_reading text) → 4 * length (records_of (method_reading text)) ≤ length d → Writing text d d 1 0
begun [] d are room = absurd (rw (← empty [] refl) at are)
begun (x ∷ text) d are room = by (eqb x 40) refl
  where
    by : (b : Bool) → eqb x 40 ≡ b → Writing (x ∷ text) d d 1 0
    by true e =
        record {
          left = length (x ∷ text);
          enough = record { inside = omega arith; turns = omega arith };
          filling = rw (opened (x ∷ text) (eqb-true x 40 e)) (record { are = are; room = omega arith; from_here = refl });
          same = refl;
        }
    by false e = absurd (rw (← not_opened (x ∷ text) (eqb-false x 40 e)) at are)
