-- An answer is told by its numbers.
-- Assumes nothing.
use Rattle.std.specs.Prelude.{Result, Ok, Err}
use Prim.Native.Nat.{ℕ}
use native.Mathlib.Omega.{arith}
use mathlib.Core.Path.{◌≡◌, refl, ap}
use Rattle.casefile.specs.Whole.{numbered}
use Rattle.casefile.specs.declared.CaseError.{CaseError}
use Rattle.casefile.specs.declared.CaseError.TheVariants.{Wrong, TooLong}
use Rattle.casefile.specs.declared.Places.{Places}

-- the places with these numbers
placed : ℕ → ℕ → ℕ → ℕ → ℕ → ℕ → ℕ → ℕ → ℕ → ℕ → ℕ → ℕ → Places
placed a b c d e f g h i j k l =
    record {
      flags = a;
      fault = b;
      code = c;
      code_length = d;
      signature = e;
      signature_length = f;
      members = g;
      members_length = h;
      member_count = i;
      records = j;
      records_length = k;
      record_count = l;
    }

pub numbered_injective : (one another : Result Places CaseError) → numbered one ≡ numbered another → one ≡ another
unfolding numbered placed
numbered_injective (Ok p) (Ok q) e =
    let same :
    placed p.flags p.fault p.code p.code_length p.signature p.signature_length
    p.members p.members_length p.member_count p.records p.records_length p.record_count
    ≡ placed q.flags q.fault q.code q.code_length q.signature q.signature_length
    q.members q.members_length q.member_count q.records q.records_length q.record_count = cc in
    ap Ok same
numbered_injective (Ok p) (Err (Wrong n)) e = let z : ◌≡◌ {A = ℕ} 0 1 = cc in absurd (omega arith)
numbered_injective (Ok p) (Err TooLong) e = let z : ◌≡◌ {A = ℕ} 0 1 = cc in absurd (omega arith)
numbered_injective (Err (Wrong m)) (Ok q) e = let z : ◌≡◌ {A = ℕ} 0 1 = cc in absurd (omega arith)
numbered_injective (Err (Wrong m)) (Err (Wrong n)) e = let same : m ≡ n = cc in ap (λ (place : ℕ). Err (Wrong place)) same
numbered_injective (Err (Wrong m)) (Err TooLong) e = let z : ◌≡◌ {A = ℕ} 0 1 = cc in absurd (omega arith)
numbered_injective (Err TooLong) (Ok q) e = let z : ◌≡◌ {A = ℕ} 0 1 = cc in absurd (omega arith)
numbered_injective (Err TooLong) (Err (Wrong n)) e = let z : ◌≡◌ {A = ℕ} 0 1 = cc in absurd (omega arith)
numbered_injective (Err TooLong) (Err TooLong) e = refl
