-- `names::put_brackets` meets its contract. The loop's invariant: so many bytes of the pairs are written.
-- Assumes nothing.
use Prim.Native.Nat.{◌<◌}
use native.Mathlib.Omega.{arith}
use mathlib.Core.Path.{◌≡◌, refl, ◌∙◌, sym}
use lib.ListN.{length, get_or}
use Rattle.names.specs.Names.{bracket_pairs}
use Rattle.text.specs.Writing.{over}
use Rattle.names.proofs.Bytewise.{pairs_length, pairs_at}
use Rattle.text.proofs.Writing.{one_byte_more, written_by_bytes}
use Rattle.names.proofs.put_brackets.Goals as goal

pub loop-i-init : goal.loop-i-init
unfolding over
loop-i-init c = refl

pub loop-i-preserved : goal.loop-i-preserved
loop-i-preserved c =
    let l = c.loop-i in
    let a = c.args in
    let long = pairs_length a.dims in
    let inside : l.i < length (bracket_pairs a.dims) = omega arith in
    let fits : l.i < length a.out.now = omega arith in
    let byte : c.bracket.result ≡ get_or (bracket_pairs a.dims) l.i 0 =
    c.bracket.ensures ∙ sym (pairs_at a.dims l.i (omega arith)) in
    rw (byte, l.invariant, one_byte_more (bracket_pairs a.dims) a.out.now l.i inside fits)

pub returns : goal.returns
returns c =
    let l = c.loop-i in
    let a = c.args in
    let long = pairs_length a.dims in
    written_by_bytes (bracket_pairs a.dims) a.out.now l.out l.i c.saturating_add-all.result (omega arith) (omega arith) l.invariant
