-- `text::put_decimal_at` meets its contract. What remains of the output is lent, and comes back.
-- Assumes nothing.
use native.Mathlib.Omega.{arith}
use Rattle.text.specs.Decimal.{decimal}
use Rattle.text.proofs.Writing.{written_from}
use Rattle.text.proofs.put_decimal_at.Goals as goal

pub returns : goal.returns
returns c =
    let a = c.args in
    let p = c.put_decimal-digits in
    written_from a.at c.min-from.result p.result _ (decimal a.n) a.out.now p.new.out (omega arith) (omega arith) p.ensures
