-- `utf8::is_modified` meets its contract. The loop's invariant: what is left is right exactly where the whole is.
-- Assumes nothing.
use Prim.Native.Nat.{ℕ, ◌+◌, ◌≤◌}
use native.Mathlib.Omega.{arith}
use mathlib.Core.List.{List}
use mathlib.Core.Path.{◌≡◌, refl, ◌∙◌, sym}
use lib.ListN.{length, drop}
use Rattle.utf8.specs.Turning.{size_of}
use Rattle.utf8.proofs.Loops.{judged_end, judged_wrong, judged_more}
use Rattle.utf8.proofs.Sizes.{size_from, size_ends}
use Rattle.utf8.proofs.is_modified.Goals as goal
use Rattle.utf8.proofs.is_modified.Goals.{After-unit_size-size}

pub loop-i-init : goal.loop-i-init
loop-i-init c = (refl, omega arith)

-- the text, and the place of a turn in it
abbrev whole : After-unit_size-size → List ℕ
whole c = c.args.text.now

abbrev here : After-unit_size-size → ℕ
here c = c.loop-i.i

-- the size of the unit there, and its end in the text
sized : (c : After-unit_size-size) → size_of (drop (here c) (whole c)) ≡ c.unit_size-size.result
sized c =
    sym (size_from (whole c) (here c)
    c.byte_at.result c.byte_at-in-loop-i.result c.byte_at-in-loop-i-2.result
    c.byte_at.ensures c.byte_at-in-loop-i.ensures c.byte_at-in-loop-i-2.ensures)
    ∙ sym c.unit_size-size.ensures

ended : (c : After-unit_size-size) → here c + c.unit_size-size.result ≤ length (whole c)
ended c =
    size_ends (whole c) (here c) c.unit_size-size.result c.loop-i.invariant.1 (sized c)

pub returns-then-size-eq0 : goal.returns-then-size-eq0
returns-then-size-eq0 c =
    judged_wrong (whole (goal.at.returns-then-size-eq0 c).After-unit_size-size) (here (goal.at.returns-then-size-eq0 c).After-unit_size-size) c.loop-i.invariant.0
    c.loop-i-test.true (sized (goal.at.returns-then-size-eq0 c).After-unit_size-size ∙ c.if-size-eq0.true)

pub overflow_add-i-in-loop-i-2 : goal.overflow_add-i-in-loop-i-2
overflow_add-i-in-loop-i-2 c = omega (arith, ended (goal.at.overflow_add-i-in-loop-i-2 c).After-unit_size-size)

pub loop-i-smaller : goal.loop-i-smaller
loop-i-smaller c = omega (arith, ended (goal.at.loop-i-smaller c).After-unit_size-size, c.if-size-eq0.false)

pub loop-i-preserved : goal.loop-i-preserved
loop-i-preserved c =
    let so_far = c.loop-i.invariant.0 in (
      judged_more (whole (goal.at.loop-i-preserved c).After-unit_size-size) (here (goal.at.loop-i-preserved c).After-unit_size-size) so_far c.unit_size-size.result (sized (goal.at.loop-i-preserved c).After-unit_size-size) c.if-size-eq0.false,
      ended (goal.at.loop-i-preserved c).After-unit_size-size,
    )

pub returns : goal.returns
returns c = judged_end c.args.text.now c.loop-i.i c.loop-i.invariant.0 c.loop-i-test.false
