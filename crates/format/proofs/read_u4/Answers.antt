-- `format::read_u4` meets its contract.
-- Assumes nothing.
use Rattle.std.specs.Prelude.{Some}
use Prim.Native.Nat.{ℕ, ◌+◌, ◌≤◌, ◌<◌}
use native.Mathlib.Omega.{arith}
use mathlib.Core.Path.{sym, ap, ◌∙◌}
use borrow.Author.Tests.{le-leb, lt-leb}
use Rattle.format.specs.Items.{item_at}
use Rattle.format.proofs.Items.{four_bytes}
use Rattle.format.proofs.read_u4.Goals as goal

pub returns-then-saturating_sub-lt4 : goal.returns-then-saturating_sub-lt4
unfolding item_at
returns-then-saturating_sub-lt4 c =
    let a = c.args in
    let cut : a.limit < a.at + 4 = omega (arith, c.saturating_sub.ensures) in
    rw (lt-leb (a.at + 4) a.limit cut)

pub returns : goal.returns
unfolding item_at
returns c =
    let a = c.args in
    let fits : a.at + 4 ≤ a.limit = omega (arith, c.saturating_sub.ensures) in
    rw (le-leb (a.at + 4) a.limit fits)
    (ap (λ (v : ℕ). Some (v, a.at + 4)) (c.read_u32.ensures.0 ∙ sym (four_bytes a.file.now a.at)))
