-- Behind the members of earlier buckets a lookup finds what it finds before them.
-- Assumes nothing.
use Rattle.std.specs.Prelude.{Result, Ok, Err}
use Prim.Native.Nat.{ℕ, zero, suc, ◌≤◌, ◌<◌}
use native.Mathlib.Omega.{arith}
use mathlib.Core.Path.{◌≡◌, refl, ◌∙◌, sym, ap}
use mathlib.Core.Bool.{Bool, true, false}
use mathlib.Core.List.{List}
use lib.Dec.{leb}
use borrow.Author.Tests.{ne_eqb, lt-leb, leb-false}
use Rattle.tables.specs.Member.{member_at}
use Rattle.lookup.specs.Lookup.{member_found}
use Rattle.tables.specs.declared.MemberPlace.{MemberPlace}
use Rattle.index.specs.Index.{bucket_of, skipped, found_in}
use Rattle.index.specs.declared.Rest.{Rest}

abbrev rest : ℕ → ℕ → ℕ → Rest
rest at last left = record { at = at; last = last; left = left }

abbrev pub skipped_in : List ℕ → ℕ → Rest → Rest
skipped_in bytes bucket r = skipped bytes bucket r.left r.last r.at

-- a member of an earlier bucket is skipped
skipped_past :
    (bytes : List ℕ) (bucket left last at : ℕ) (place : MemberPlace) → member_at bytes last at ≡ Ok place →
    bucket_of place.index < bucket →
    skipped bytes bucket (suc left) last at ≡ skipped bytes bucket left place.index place.next
unfolding skipped
skipped_past bytes bucket left last at place e earlier = rw (e, lt-leb bucket (bucket_of place.index) earlier)

-- either nothing is skipped, or a member of an earlier bucket
skipped_cases :
    {A : Type 0} (bytes : List ℕ) (bucket left last at : ℕ) →
    (skipped bytes bucket (suc left) last at ≡ rest at last (suc left) → A) →
    ((place : MemberPlace) → member_at bytes last at ≡ Ok place → bucket_of place.index < bucket → A) → A
unfolding skipped
skipped_cases {A = A} bytes bucket left last at stays goes = by_member (member_at bytes last at) refl
  where
    by_test :
        (place : MemberPlace) → member_at bytes last at ≡ Ok place →
        (t : Bool) → leb bucket (bucket_of place.index) ≡ t → A
    by_test place e true t = stays (rw (e, t))
    by_test place e false t = goes place e (leb-false bucket (bucket_of place.index) t)

    by_member : (m : Result MemberPlace ℕ) → member_at bytes last at ≡ m → A
    by_member (Ok place) e = by_test place e (leb bucket (bucket_of place.index)) refl
    by_member (Err place) e = stays (rw e)

-- skipping to a bucket, then to a later one
pub skipped_on :
    (bytes : List ℕ) (bucket later : ℕ) → bucket ≤ later → (left last at : ℕ) →
    skipped_in bytes later (skipped bytes bucket left last at) ≡ skipped bytes later left last at
unfolding skipped
skipped_on bytes bucket later ahead zero last at = refl
skipped_on bytes bucket later ahead (suc left) last at =
    skipped_cases bytes bucket left last at
    (λ stays. ap (skipped_in bytes later) stays)
    (λ place e earlier.
    ap (skipped_in bytes later) (skipped_past bytes bucket left last at place e earlier)
    ∙ skipped_on bytes bucket later ahead left place.index place.next
    ∙ sym (skipped_past bytes later left last at place e (omega (arith, earlier, ahead))))

-- a lookup of an index of the bucket or of a later one
pub skipped_finds :
    (bytes : List ℕ) (bucket index kind : ℕ) → bucket ≤ bucket_of index → (left last at : ℕ) →
    found_in bytes (skipped bytes bucket left last at) index kind ≡ member_found bytes index kind left last at
unfolding skipped member_found
skipped_finds bytes bucket index kind ahead zero last at = refl
skipped_finds bytes bucket index kind ahead (suc left) last at =
    skipped_cases bytes bucket left last at
    (λ stays. ap (λ (r : Rest). found_in bytes r index kind) stays)
    (λ place e earlier.
    let other : place.index ≡ index → ⊥ = λ same. omega (arith, same, earlier, ahead) in
    ap (λ (r : Rest). found_in bytes r index kind) (skipped_past bytes bucket left last at place e earlier)
    ∙ skipped_finds bytes bucket index kind ahead left place.index place.next
    ∙ sym (rw (e, ne_eqb place.index index other)))
