-- `classname::put_dotted` meets its contract. The loop's invariant: so many bytes of the dotted name are written.
-- Assumes nothing.
use Prim.Native.Nat.{◌<◌}
use native.Mathlib.Omega.{arith}
use mathlib.Core.Path.{◌≡◌, refl, ◌∙◌, sym}
use lib.ListN.{length, get_or}
use Rattle.classname.specs.ClassName.{dotted}
use Rattle.text.specs.Writing.{over}
use Rattle.classname.proofs.Bytewise.{dotted_length, dotted_at}
use Rattle.text.proofs.Writing.{one_byte_more, written_by_bytes}
use Rattle.classname.proofs.put_dotted.Goals as goal

pub loop-i-init : goal.loop-i-init
unfolding over
loop-i-init c = refl

pub loop-i-preserved : goal.loop-i-preserved
loop-i-preserved c =
    let l = c.loop-i in
    let a = c.args in
    let inside : l.i < length (dotted a.name.now) = omega (arith, dotted_length a.name.now) in
    let fits : l.i < length a.out.now = omega arith in
    let byte : c.dot.result ≡ get_or (dotted a.name.now) l.i 0 = c.dot.ensures ∙ sym (dotted_at a.name.now l.i) in
    rw (byte, l.invariant, one_byte_more (dotted a.name.now) a.out.now l.i inside fits)

pub returns : goal.returns
returns c =
    let l = c.loop-i in
    let a = c.args in
    let long = dotted_length a.name.now in
    written_by_bytes (dotted a.name.now) a.out.now l.out l.i (length a.name.now) (omega arith) (omega arith) l.invariant
