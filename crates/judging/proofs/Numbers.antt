-- An answer is told by its numbers.
-- Assumes nothing.
use Rattle.std.specs.Prelude.{Ok, Err}
use Prim.Native.Nat.{ℕ}
use native.Mathlib.Omega.{arith}
use mathlib.Core.Path.{◌≡◌, ap}
use Rattle.refusal.specs.Refusal.{number_of}
use Rattle.refusal.proofs.Numbers.{number_injective}
use Rattle.judging.specs.Judged.{Answer, numbered}

pub numbered_injective : (one another : Answer) → numbered one ≡ numbered another → one ≡ another
unfolding numbered
numbered_injective (Ok n) (Ok m) e = let same : n ≡ m = cc in ap Ok same
numbered_injective (Ok n) (Err r) e = let z : ◌≡◌ {A = ℕ} 0 1 = cc in absurd (omega arith)
numbered_injective (Err r) (Ok m) e = let z : ◌≡◌ {A = ℕ} 0 1 = cc in absurd (omega arith)
numbered_injective (Err r) (Err q) e =
    let same : number_of r ≡ number_of q = cc in
    ap Err (number_injective r q same)
