-- `locals::put_numbered_at` meets its contract. One text after the other.
-- Assumes nothing.
use native.Mathlib.Omega.{arith}
use Rattle.locals.specs.Name.{numbered_name}
use Rattle.text.proofs.Writing.{written_then}
use Rattle.locals.proofs.put_numbered_at.Goals as goal

pub returns : goal.returns
unfolding numbered_name
returns c =
    let word = c.put_at-number in
    let number = c.put_decimal_at-close in
    written_then (omega arith) (written_then (omega arith) word.ensures number.ensures) c.put_at.ensures
