-- Signed numbers in the naturals are those of the integers: one law over the width, and what follows for sums and differences.
-- Assumes nothing.
use Prim.Native.Nat.{ℕ, zero, suc, ◌+◌, ◌-◌, ◌*◌, ◌^◌, ◌≤◌, ◌<◌}
use native.Mathlib.Omega.{arith}
use mathlib.Core.Path.{◌≡◌, refl, ◌∙◌, sym, ap}
use mathlib.Core.Bool.{Bool, true, false, cond}
use lib.Dec.{ltb}
use lib.IntN.{ℤ, pos, negsuc, neg_ℤ, sub_ℕ, ◌+ℤ◌, ◌-ℤ◌}
use lib.IntN.{+ℤ_assoc, +ℤ_comm, +ℤ_invr, +ℤ_idl, neg_ℤ-+ℤ, +ℤ-neg_ℤ_cancel}
use mir.Val.{sel}
use borrow.Author.Tests.{le-ltb, ltb-true, ltb-false}
use Rattle.basics.specs.Bytes.{u16_at, u32_at}
use Rattle.basics.specs.Choice.{pick}
use Rattle.basics.proofs.Bytes.{u16_below, u32_below}
use Rattle.jvms.specs.Extent.{natural}
use Rattle.reads.specs.Signed.{lifted, i16_at, i32_at}
use Rattle.lengths.specs.Agreement.{SignedReading}

pub lifted_is :
    (half v : ℕ) → v < 2 * half → sel (ltb v half) (pos v) (negsuc (2 * half - suc v)) +ℤ pos half ≡ pos (lifted half v)
unfolding lifted
lifted_is half v below = by_sign (ltb v half) refl
  where
    by_sign :
        (t : Bool) → ltb v half ≡ t →
        sel t (pos v) (negsuc (2 * half - suc v)) +ℤ pos half ≡ pos (pick t (v + half) (v - half))
    by_sign true e = refl
    by_sign false e =
        let high : half ≤ v = ltb-false v half e in
        let reach : suc (2 * half - suc v) ≤ half = omega arith in
        let same : half - suc (2 * half - suc v) ≡ v - half = omega arith in
        simp (le-ltb half (suc (2 * half - suc v)) reach) (ap pos same)

pub signed_reading : SignedReading
unfolding i16_at i32_at
signed_reading =
    record {
      of16 = λ code are at. lifted_is (2 ^ 15) (u16_at code at) (u16_below code are at);
      of32 = λ code are at. lifted_is (2 ^ 31) (u32_at code at) (u32_below code are at);
    }

-- an integer that is t when moved up by k
pub unlifted : (z : ℤ) (k t : ℕ) → z +ℤ pos k ≡ pos t → z ≡ pos t -ℤ pos k
unlifted z k t e = sym (+ℤ-neg_ℤ_cancel z (pos k)) ∙ ap (λ (x : ℤ). x -ℤ pos k) e

-- a difference does not see that both sides are moved up
moved_alike : (x y k : ℤ) → (x +ℤ k) -ℤ (y +ℤ k) ≡ x -ℤ y
moved_alike x y k =
    ap (λ (z : ℤ). (x +ℤ k) +ℤ z) (neg_ℤ-+ℤ y k ∙ +ℤ_comm (neg_ℤ y) (neg_ℤ k))
    ∙ +ℤ_assoc x k (neg_ℤ k +ℤ neg_ℤ y)
    ∙ ap (λ (z : ℤ). x +ℤ z)
    (sym (+ℤ_assoc k (neg_ℤ k) (neg_ℤ y)) ∙ ap (λ (z : ℤ). z +ℤ neg_ℤ y) (+ℤ_invr k) ∙ +ℤ_idl (neg_ℤ y))

natural_of_sub : (a b : ℕ) → natural (sub_ℕ a b) ≡ a - b
natural_of_sub a b = by_order (ltb a b) refl
  where
    by_order : (t : Bool) → ltb a b ≡ t → natural (cond t (negsuc (b - suc a)) (pos (a - b))) ≡ a - b
    by_order true e = omega (arith, ltb-true a b e)
    by_order false e = refl

natural_difference : (a b : ℕ) → natural (pos a -ℤ pos b) ≡ a - b
natural_difference a zero = omega arith
natural_difference a (suc b) = natural_of_sub a (suc b)

-- the count of a lookupswitch, none where it is negative
pub count_is : (z : ℤ) (k t : ℕ) → z +ℤ pos k ≡ pos t → natural z ≡ t - k
count_is z k t e = ap natural (unlifted z k t e) ∙ natural_difference t k

-- one more than a difference
natural_difference_one : (a b : ℕ) → natural (pos a -ℤ pos b +ℤ pos 1) ≡ a + 1 - b
natural_difference_one a b =
    ap natural
    (+ℤ_assoc (pos a) (neg_ℤ (pos b)) (pos 1)
    ∙ ap (λ (z : ℤ). pos a +ℤ z) (+ℤ_comm (neg_ℤ (pos b)) (pos 1))
    ∙ sym (+ℤ_assoc (pos a) (pos 1) (neg_ℤ (pos b))))
    ∙ natural_difference (a + 1) b

-- high - low + 1, none where it is negative: of two integers that were both moved up by k
pub span_is :
    (high low : ℤ) (k a b : ℕ) → high +ℤ pos k ≡ pos a → low +ℤ pos k ≡ pos b → natural (high -ℤ low +ℤ pos 1) ≡ a + 1 - b
span_is high low k a b high_is low_is =
    ap (λ (z : ℤ). natural (z +ℤ pos 1))
    (sym (moved_alike high low (pos k))
    ∙ ap (λ (z : ℤ). z -ℤ (low +ℤ pos k)) high_is
    ∙ ap (λ (z : ℤ). pos a -ℤ z) low_is)
    ∙ natural_difference_one a b
