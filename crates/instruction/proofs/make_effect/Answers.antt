-- `instruction::make_effect` meets its contract. A case on the third byte behind the opcode.
-- Assumes nothing.
use Prim.Native.Nat.{◌+◌}
use native.Mathlib.Omega.{arith}
use Rattle.walk.specs.Worked.{nothing}
use Rattle.instruction.proofs.Effects.{make_cut, make_none, made}
use Rattle.instruction.proofs.make_effect.Goals as goal

pub returns-then-bytes_from-lt4 : goal.returns-then-bytes_from-lt4
returns-then-bytes_from-lt4 c =
    let a = c.args in
    make_cut a.code.now a.pc nothing (omega (arith, c.bytes_from.ensures))

pub overflow_cast-dimensions : goal.overflow_cast-dimensions
overflow_cast-dimensions c = omega (arith, (c.type_inv.code (c.args.pc + 3)).fits)

pub returns-then-dimensions-eq0 : goal.returns-then-dimensions-eq0
returns-then-dimensions-eq0 c =
    let a = c.args in
    make_none a.code.now a.pc nothing (omega (arith, c.bytes_from.ensures)) c.if-dimensions-eq0.true

pub returns : goal.returns
returns c =
    let a = c.args in
    made a.code.now a.pc nothing (omega (arith, c.bytes_from.ensures)) c.if-dimensions-eq0.false
