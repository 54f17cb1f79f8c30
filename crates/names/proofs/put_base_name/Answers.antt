-- `names::put_base_name` meets its contract. The row of the letter's place is written.
-- Assumes nothing.
use Rattle.std.specs.Prelude.{Option, Some}
use Prim.Native.Nat.{ℕ, ◌<◌}
use native.Mathlib.Omega.{arith}
use mathlib.Core.Path.{◌≡◌, ◌∙◌, sym, subst}
use lib.Seq.{length-take-le}
use Rattle.basics.specs.Ascii.{ascii}
use Rattle.bytesearch.specs.Search.{first_from, found_inside}
use Rattle.names.specs.Names.{base_name}
use Rattle.bytesearch.proofs.Search.{found-inside}
use Rattle.text.proofs.Writing.{written_none}
use Rattle.names.proofs.put_base_name.Goals as goal
use Rattle.names.proofs.put_base_name.Goals.{In-Some}

pub returns-in_default : goal.returns-in_default
unfolding base_name
returns-in_default c = rw (sym c.find_byte.ensures ∙ c.in_default.is) (written_none c.args.out.now (omega arith))

-- the letter's place
found : (c : In-Some) → first_from c.args.letter (ascii "BCDFIJSZ") 0 ≡ Some c.in-Some.k
found c = sym c.find_byte.ensures ∙ c.in-Some.is

below-eight : (c : In-Some) → c.in-Some.k < 8
below-eight c =
    (subst (λ (r : Option ℕ). found_inside r (ascii "BCDFIJSZ") 0) (found c) (found-inside c.args.letter (ascii "BCDFIJSZ") 0)).1

pub base_row-row-requires : goal.base_row-row-requires
base_row-row-requires c = below-eight (goal.at.base_row-row-requires c).In-Some

pub slice_bounds-put-end : goal.slice_bounds-put-end
slice_bounds-put-end c = let r = c.base_row-row in sym (length-take-le r.result.len r.result.bytes (omega (arith, r.ensures)))

pub returns : goal.returns
unfolding base_name
returns c = rw (found (goal.at.returns c).In-Some, sym c.base_row-row.ensures.0) c.put.ensures
