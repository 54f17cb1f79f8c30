-- `search::find_record` meets its contract. A record that does not match is passed by one turn of the definition.
-- Assumes nothing.
use Prim.Native.Nat.{◌+◌, ◌-◌}
use native.Mathlib.Omega.{arith}
use Rattle.std.proofs.lemmas.Grind.{common_steps}
use Rattle.search.proofs.Search.{match_turn}
use Rattle.search.proofs.find_record.Goals as goal

pub loop-preserved : goal.loop-preserved
loop-preserved c =
    let a = c.args in
    let l = c.loop in
    grind (arith, common_steps, match_turn a.records.now a.slot a.load (a.count - l.counter) (a.count - (l.counter + 1)) l.at (omega arith))
