-- `lookup::find_from` meets its contract. A member further is one turn of the definition.
-- Assumes nothing.
use Prim.Native.Nat.{◌+◌, ◌-◌}
use native.Mathlib.Omega.{arith}
use Rattle.std.proofs.lemmas.Grind.{common_steps}
use Rattle.lookup.proofs.Turns.{found_turn}
use Rattle.lookup.proofs.find_from.Goals as goal

pub returns-then-member-kind : goal.returns-then-member-kind
returns-then-member-kind c =
    let a = c.args in
    let l = c.loop in
    grind (arith, common_steps, found_turn a.members.now a.index a.kind (a.count - l.counter) (a.count - (l.counter + 1)) l.last l.at (omega arith))

pub loop-preserved : goal.loop-preserved
loop-preserved c =
    let a = c.args in
    let l = c.loop in
    grind (arith, common_steps, found_turn a.members.now a.index a.kind (a.count - l.counter) (a.count - (l.counter + 1)) l.last l.at (omega arith))
