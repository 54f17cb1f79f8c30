-- `instruction::load_effect` meets its contract. A case on the byte behind the opcode.
-- Assumes nothing.
use Prim.Native.Nat.{◌+◌}
use native.Mathlib.Omega.{arith}
use Rattle.walk.specs.Worked.{nothing}
use Rattle.instruction.proofs.Effects.{load_cut, loads}
use Rattle.instruction.proofs.load_effect.Goals as goal

pub returns-then-bytes_from-lt2 : goal.returns-then-bytes_from-lt2
returns-then-bytes_from-lt2 c =
    let a = c.args in
    load_cut a.code.now a.pc nothing (omega (arith, c.bytes_from.ensures))

pub overflow_cast-result : goal.overflow_cast-result
overflow_cast-result c = omega (arith, (c.type_inv.code (c.args.pc + 1)).fits)

pub returns : goal.returns
returns c =
    let a = c.args in
    loads a.code.now a.pc nothing (omega (arith, c.bytes_from.ensures))
