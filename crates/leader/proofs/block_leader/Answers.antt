-- `leader::block_leader` meets its contract. The extra leader 0 adds nothing.
-- Assumes nothing.
use mathlib.Core.Path.{◌∙◌}
use mathlib.Core.List.{[], ◌∷◌}
use Rattle.bytecode.specs.Length.{length_of}
use Rattle.leader.proofs.Greatest.{none_more}
use Rattle.leader.proofs.Scanning.{led_alike}
use Rattle.leader.proofs.block_leader.Goals as goal

pub returns : goal.returns
returns c =
    let a = c.args in
    c.scan_with.ensures ∙ led_alike length_of a.code.now a.fault (0 ∷ []) [] (none_more a.fault [])
