-- `format::read_u2` meets its contract.
-- Assumes nothing.
use Rattle.std.specs.Prelude.{Some}
use Prim.Native.Nat.{ℕ, ◌+◌, ◌≤◌, ◌<◌}
use native.Mathlib.Omega.{arith}
use mathlib.Core.Path.{sym, ap, ◌∙◌}
use borrow.Author.Tests.{le-leb, lt-leb}
use Rattle.format.specs.Items.{item_at}
use Rattle.format.proofs.Items.{two_bytes}
use Rattle.format.proofs.read_u2.Goals as goal

pub returns-then-saturating_sub-lt2 : goal.returns-then-saturating_sub-lt2
unfolding item_at
returns-then-saturating_sub-lt2 c =
    let a = c.args in
    let cut : a.limit < a.at + 2 = omega (arith, c.saturating_sub.ensures) in
    rw (lt-leb (a.at + 2) a.limit cut)

pub returns : goal.returns
unfolding item_at
returns c =
    let a = c.args in
    let fits : a.at + 2 ≤ a.limit = omega (arith, c.saturating_sub.ensures) in
    rw (le-leb (a.at + 2) a.limit fits)
    (ap (λ (v : ℕ). Some (v, a.at + 2)) (c.read_u16.ensures.0 ∙ sym (two_bytes a.file.now a.at)))
