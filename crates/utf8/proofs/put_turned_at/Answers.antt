-- `utf8::put_turned_at` meets its contract. The loop's invariant: what is written and what is left are the whole text.
-- Assumes nothing.
use Prim.Native.Nat.{◌+◌, ◌≤◌}
use native.Mathlib.Omega.{arith}
use mathlib.Core.Path.{refl, ◌∙◌, sym}
use lib.ListN.{length, take}
use lib.Seq.{length-take-le}
use Rattle.text.proofs.Writing.{written_length}
use Rattle.utf8.proofs.Loops.{at_first, ended, stopped, one_more}
use Rattle.utf8.proofs.Sizes.{turn_ends}
use Rattle.utf8.proofs.put_turned_at.Goals as goal
use Rattle.utf8.proofs.put_turned_at.Goals.{After-turn_at-turn}

pub loop-i-init : goal.loop-i-init
loop-i-init c =
    let a = c.args in
    (at_first a.text.now a.at a.out.now (omega arith), omega arith, refl)

pub turn_at-turn-requires : goal.turn_at-turn-requires
turn_at-turn-requires c = omega arith

pub shape_of-out-then-taken-eq0 : goal.shape_of-out-then-taken-eq0
shape_of-out-then-taken-eq0 c = c.loop-i.invariant.2

pub returns-then-taken-eq0 : goal.returns-then-taken-eq0
returns-then-taken-eq0 c = stopped c.loop-i.invariant.0 (sym c.turn_at-turn.ensures.takes ∙ c.if-taken-eq0.true)

pub slice_bounds-bytes-end : goal.slice_bounds-bytes-end
slice_bounds-bytes-end c = omega (arith, c.turn_at-turn.ensures)

pub slice_bounds-put_at-end : goal.slice_bounds-put_at-end
slice_bounds-put_at-end c =
    let r = c.turn_at-turn in
    sym (length-take-le r.result.given r.result.bytes (omega (arith, r.ensures)))

-- what is taken ends in the text
ended-inside :
    (c : After-turn_at-turn) →
    c.loop-i.i + c.turn_at-turn.result.taken ≤ length c.args.text.now
ended-inside c =
    turn_ends c.args.text.now c.loop-i.i c.turn_at-turn.result.taken
    c.loop-i.invariant.1 (sym c.turn_at-turn.ensures.takes)

pub overflow_add-i : goal.overflow_add-i
overflow_add-i c = omega (arith, ended-inside (goal.at.overflow_add-i c).After-turn_at-turn)

pub loop-i-smaller : goal.loop-i-smaller
loop-i-smaller c = omega (arith, ended-inside (goal.at.loop-i-smaller c).After-turn_at-turn, c.if-taken-eq0.false)

pub loop-i-preserved : goal.loop-i-preserved
loop-i-preserved c =
    let l = c.loop-i in
    let r = c.turn_at-turn in
    let p = c.put_at-next in (
      one_more l.invariant.0 r.result.taken (take r.result.given r.result.bytes) p.result p.new.out (omega arith)
          (sym r.ensures.takes) (sym r.ensures.gives) c.if-taken-eq0.false p.ensures,
      ended-inside (goal.at.loop-i-preserved c).After-turn_at-turn,
      written_length p.ensures ∙ l.invariant.2,
    )

pub shape_of-out : goal.shape_of-out
shape_of-out c = c.loop-i.invariant.2

pub returns : goal.returns
returns c = ended c.loop-i.invariant.0 c.loop-i-test.false
