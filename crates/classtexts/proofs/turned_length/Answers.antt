-- `classtexts::turned_length` meets its contract. The place after a text that starts at 0 is its length, since no text grows when it is turned.
-- Assumes nothing.
use native.Mathlib.Omega.{arith}
use Rattle.text.specs.Writing.{following}
use Rattle.utf8.proofs.Meaning.{text_declared}
use Rattle.classtexts.proofs.turned_length.Goals as goal

pub returns : goal.returns
unfolding following
returns c =
    let a = c.args in
    omega (arith, c.put_turned_at.ensures.place, text_declared.shorter a.text.now)
