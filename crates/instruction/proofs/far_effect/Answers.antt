-- `instruction::far_effect` meets its contract. A case on the two bytes behind the widened opcode.
-- Assumes nothing.
use native.Mathlib.Omega.{arith}
use Rattle.walk.specs.Worked.{nothing}
use Rattle.instruction.proofs.Effects.{far_cut, loads_far}
use Rattle.instruction.proofs.far_effect.Goals as goal

pub returns-then-bytes_from-lt4 : goal.returns-then-bytes_from-lt4
returns-then-bytes_from-lt4 c =
    let a = c.args in
    far_cut a.code.now a.pc nothing (omega (arith, c.bytes_from.ensures))

pub returns : goal.returns
returns c =
    let a = c.args in
    loads_far a.code.now a.pc nothing c.read_u16.result c.read_u16.ensures.0
    (omega (arith, c.bytes_from.ensures))
