-- `text::digit_count` meets its contract. The loop's invariant: the digits counted and those of what is left are the number's.
-- Assumes nothing.
use native.Mathlib.Omega.{arith}
use mathlib.Core.Path.{ap}
use lib.ListN.{length}
use Rattle.text.proofs.Decimal.{one_digit, one_more, decimal_short}
use Rattle.text.proofs.digit_count.Goals as goal

pub overflow_add-count : goal.overflow_add-count
overflow_add-count c = omega (arith, decimal_short c.args.n)

pub loop-left-preserved : goal.loop-left-preserved
loop-left-preserved c =
    let l = c.loop-left in
    omega (arith, one_more l.left c.loop-left-test.true (omega arith))

pub returns : goal.returns
returns c = omega (arith, ap length (one_digit c.loop-left.left (omega arith)))
