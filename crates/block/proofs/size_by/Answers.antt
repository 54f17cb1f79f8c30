-- `block::size_by` meets its contract. A case on the key.
-- Assumes nothing.
use Prim.Native.Nat.{ℕ, ◌+◌, ◌-◌, ◌<◌}
use native.Mathlib.Omega.{arith}
use mathlib.Core.Path.{◌≡◌, ◌∙◌}
use borrow.Author.Tests.{lt-ltb, le-ltb}
use Rattle.block.proofs.size_by.Goals as goal

pub returns-in-Plain : goal.returns-in-Plain
returns-in-Plain c =
    let op : ℕ = c.in-Plain.op in
    let below : op < 256 = omega (arith, c.in-Plain.known_told-1-own.given) in
    rw (c.in-Plain.is, lt-ltb op 256 below) (c.fixed_by.ensures ∙ c.requires.entries op below)

pub returns-in-Wide : goal.returns-in-Wide
returns-in-Wide c =
    let op : ℕ = c.in-Wide.op in
    let behind : 256 + op - 256 ≡ op = omega arith in
    rw (c.in-Wide.is, le-ltb (256 + op) 256 (omega arith), behind) c.wide_by.ensures
