-- `text::put` meets its contract. The loop's invariant: so many bytes of the part are written.
-- Assumes nothing.
use Prim.Native.Nat.{◌<◌}
use native.Mathlib.Omega.{arith}
use mathlib.Core.Path.{refl}
use lib.ListN.{length}
use Rattle.text.specs.Writing.{over}
use Rattle.text.proofs.Writing.{one_byte_more, written_by_bytes}
use Rattle.text.proofs.put.Goals as goal

pub loop-i-init : goal.loop-i-init
unfolding over
loop-i-init c = refl

pub loop-i-preserved : goal.loop-i-preserved
loop-i-preserved c =
    let l = c.loop-i in
    let a = c.args in
    let inside : l.i < length a.part.now = omega arith in
    let fits : l.i < length a.out.now = omega arith in
    rw (l.invariant, one_byte_more a.part.now a.out.now l.i inside fits)

pub returns : goal.returns
returns c =
    let l = c.loop-i in
    let a = c.args in
    written_by_bytes a.part.now a.out.now l.out l.i (length a.part.now) (omega arith) (omega arith) l.invariant
