-- What the inner functions answer: the fault at an opcode inside the code. Nothing that is promised rests on it: the promise is
-- Decoding.antt's, and proofs/Decode.antt shows that they agree.
-- Assumes nothing.
use Rattle.std.specs.Prelude.{ℕ, ◌+◌, List, Option, None}
use Rattle.basics.specs.Bytes.{u16_at}
use Rattle.basics.specs.Choice.{pick, both}
use Rattle.effects.specs.Depth.{rule_of, depth_by}
use Rattle.effects.specs.Lookup.{lookup_in}
use Rattle.fault.specs.Decoding.{invokes, action_of, constructs, failed_at}
use Rattle.fault.specs.declared.Fault.{Fault}

-- `decoded`, where this opcode stands at the fault
unfoldable pub decoded_as : ℕ → List ℕ → List ℕ → ℕ → ℕ → Option Fault
decoded_as op code members count fault =
    pick (both (invokes op) (constructs members count (u16_at code (fault + 1)))) None
    (failed_at (depth_by (rule_of op) (lookup_in members count) code fault) (action_of op (u16_at code (fault + 1))))
