-- `ffi::korsepal_block_leader` meets its contract. The numbers of what the library answers.
-- Assumes nothing.
use mathlib.Core.Path.{ap, ◌∙◌}
use Rattle.structs.specs.Structs.{leader_numbers}
use Rattle.ffi.proofs.korsepal_block_leader.Goals as goal

pub returns : goal.returns
returns c = c.leader_numbers.ensures ∙ ap leader_numbers c.block_leader-scan.ensures
