-- `pool::pass_numbers` meets its contract.
-- Assumes nothing.
use Prim.Native.Nat.{◌+◌}
use native.Mathlib.Omega.{arith}
use borrow.Author.Tests.{le-leb, lt-leb}
use Rattle.pool.specs.Pool.{passed_by}
use Rattle.pool.proofs.pass_numbers.Goals as goal

pub returns-then-limit-at : goal.returns-then-limit-at
unfolding passed_by
returns-then-limit-at c = let a = c.args in rw (lt-leb (a.at + a.first) a.limit (omega (arith, c.requires)))

pub returns-then-limit-behind : goal.returns-then-limit-behind
unfolding passed_by
returns-then-limit-behind c =
    let a = c.args in
    rw (
      le-leb (a.at + a.first) a.limit (omega (arith, c.requires)),
      lt-leb (a.at + a.first + a.second) a.limit (omega (arith, c.requires)),
    )

pub returns : goal.returns
unfolding passed_by
returns c =
    let a = c.args in
    rw (
      le-leb (a.at + a.first) a.limit (omega (arith, c.requires)),
      le-leb (a.at + a.first + a.second) a.limit (omega (arith, c.requires)),
    )
