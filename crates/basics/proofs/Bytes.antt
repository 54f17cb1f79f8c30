-- What two and four bytes can hold, what stands past the end, and that a list of small numbers is known by a computed test.
-- Assumes nothing.
use Prim.Native.Nat.{ℕ, ◌+◌, ◌^◌, ◌≤◌, ◌<◌}
use native.Mathlib.Omega.{arith}
use mathlib.Core.Path.{◌≡◌, refl, sym, subst}
use mathlib.Core.Bool.{Bool, true, false}
use mathlib.Core.List.{List}
use lib.Dec.{T, ltb, ltb→lt}
use lib.ListN.{length, get_or, get_or-eq_default}
use borrow.Author.Tests.{ltb-true, ltb-false}
use Rattle.basics.specs.Bytes.{byte_at, u16_at, u32_at, AreBytes}
use Rattle.basics.proofs.Every.{every, every_at}

pub u16_below : (bytes : List ℕ) → AreBytes bytes → (at : ℕ) → u16_at bytes at < 2 ^ 16
unfolding u16_at
u16_below bytes are at = omega (arith, are at, are (at + 1))

pub u32_below : (bytes : List ℕ) → AreBytes bytes → (at : ℕ) → u32_at bytes at < 2 ^ 32
unfolding u32_at
u32_below bytes are at = omega (arith, u16_below bytes are at, u16_below bytes are (at + 2))

-- past the end every byte is 0
pub byte_past : (bytes : List ℕ) (at : ℕ) → length bytes ≤ at → byte_at bytes at ≡ 0
byte_past bytes at past = get_or-eq_default bytes 0 past

pub u16_past : (bytes : List ℕ) (at : ℕ) → length bytes ≤ at → u16_at bytes at ≡ 0
unfolding u16_at
u16_past bytes at past = rw (byte_past bytes at past, byte_past bytes (at + 1) (omega arith))

pub u32_past : (bytes : List ℕ) (at : ℕ) → length bytes ≤ at → u32_at bytes at ≡ 0
unfolding u32_at
u32_past bytes at past = rw (u16_past bytes at past, u16_past bytes (at + 2) (omega arith))

-- every number of a list is below a limit, as a computed test finds
pub all_below :
    (limit : ℕ) (xs : List ℕ) → T (ltb 0 limit) → T (every (λ i. ltb (get_or xs i 0) limit) (length xs)) →
    (i : ℕ) → get_or xs i 0 < limit
all_below limit xs some t i = by_place (ltb i (length xs)) refl
  where
    by_place : (b : Bool) → ltb i (length xs) ≡ b → get_or xs i 0 < limit
    by_place true e =
        ltb→lt (get_or xs i 0) limit
        (every_at (λ k. ltb (get_or xs k 0) limit) (length xs) t i (ltb-true i (length xs) e))
    by_place false e =
        subst (λ (x : ℕ). x < limit) (sym (get_or-eq_default xs 0 (ltb-false i (length xs) e))) (ltb→lt 0 limit some)
