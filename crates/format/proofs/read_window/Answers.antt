-- `format::read_window` meets its contract. Where the four bytes are cut, so is what they would count.
-- Assumes nothing.
use Rattle.std.specs.Prelude.{Some}
use Prim.Native.Nat.{ℕ, ◌+◌, ◌≤◌, ◌<◌}
use native.Mathlib.Omega.{arith}
use mathlib.Core.Path.{◌≡◌, sym, ap, ◌∙◌}
use borrow.Author.Tests.{le-leb, lt-leb}
use Rattle.format.specs.Format.{number_at}
use Rattle.format.specs.Items.{window_at}
use Rattle.format.proofs.Items.{four_bytes}
use Rattle.format.proofs.read_window.Goals as goal

pub returns-then-room-lt4 : goal.returns-then-room-lt4
unfolding window_at
returns-then-room-lt4 c =
    let a = c.args in
    let size = number_at 4 a.file.now a.at in
    let cut : a.limit < a.at + 4 + size = omega (arith, c.saturating_sub-room.ensures) in
    rw (lt-leb (a.at + 4 + size) a.limit cut)

pub returns-then-room-size : goal.returns-then-room-size
unfolding window_at
returns-then-room-size c =
    let a = c.args in
    let size = number_at 4 a.file.now a.at in
    let is : c.read_u32-size.result ≡ size = c.read_u32-size.ensures.0 ∙ sym (four_bytes a.file.now a.at) in
    let cut : a.limit < a.at + 4 + size = omega (arith, c.saturating_sub-room.ensures, is) in
    rw (lt-leb (a.at + 4 + size) a.limit cut)

pub returns : goal.returns
unfolding window_at
returns c =
    let a = c.args in
    let size = number_at 4 a.file.now a.at in
    let is : c.read_u32-size.result ≡ size = c.read_u32-size.ensures.0 ∙ sym (four_bytes a.file.now a.at) in
    let fits : a.at + 4 + size ≤ a.limit = omega (arith, c.saturating_sub-room.ensures, is) in
    rw (le-leb (a.at + 4 + size) a.limit fits) (ap (λ (v : ℕ). Some (a.at + 4, a.at + 4 + v)) is)
