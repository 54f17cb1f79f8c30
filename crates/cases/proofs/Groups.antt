-- The bytes of a number are the fewest that stand for it, and numbers and texts are read exactly where they stand.
-- Rests on: what stands is read and what is read stands (Reading).
-- Assumes nothing.
use Prim.Native.Nat.{ℕ, zero, suc, ◌+◌, ◌-◌, ◌*◌, ◌/◌, ◌%◌, ◌≤◌, ◌<◌}
use native.Mathlib.Omega.{arith}
use mathlib.Core.Path.{◌≡◌, refl, ◌∙◌, sym, ap, subst₂}
use mathlib.Core.Bool.{Bool, true, false}
use mathlib.Core.List.{List, [], ◌∷◌}
use lib.Dec.{ltb}
use lib.ListN.{length}
use borrow.Author.Tests.{ltb-true, ltb-false}
use Rattle.number.specs.Number.{greatest, group_or_more, groups_of, number_bytes}
use Rattle.cases.specs.Item.{Groups, last, before, NumberDeclared, TextDeclared}
use Rattle.cases.proofs.Reading.{one_group, more_groups, number_reads, number_stands, text_reads, text_part_is, text_stands}

-- groups enough for a number stand for it
are_groups : (k v : ℕ) → v ≤ k → Groups v (groups_of k v)
unfolding groups_of
are_groups zero v enough = last {group = v} (omega arith)
are_groups (suc k) v enough = by_test (ltb v 128) refl (λ less. are_groups k (v / 128) less)
  where
    by_test :
        (t : Bool) → ltb v 128 ≡ t → (v / 128 ≤ k → Groups (v / 128) (groups_of k (v / 128))) →
        Groups v (group_or_more t v (λ high. groups_of k high))
    by_test true e high = last (ltb-true v 128 e)
    by_test false e high =
        let large = ltb-false v 128 e in
        let whole : v % 128 + 128 * (v / 128) ≡ v = omega arith in
        subst₂ (λ (n : ℕ) (run : List ℕ). Groups n run) whole refl (before {group = v % 128} (omega arith) (high (omega arith)))

-- any two counts of groups that are enough give the same bytes
alike_groups : (a b v : ℕ) → v ≤ a → v ≤ b → groups_of a v ≡ groups_of b v
unfolding groups_of
alike_groups zero b v left right = sym (one_group b v (omega arith))
alike_groups (suc a) zero v left right = one_group (suc a) v (omega arith)
alike_groups (suc a) (suc b) v left right = by_test (ltb v 128) refl (λ less. λ fewer. alike_groups a b (v / 128) less fewer)
  where
    by_test :
        (t : Bool) → ltb v 128 ≡ t → (v / 128 ≤ a → v / 128 ≤ b → groups_of a (v / 128) ≡ groups_of b (v / 128)) →
        group_or_more t v (λ high. groups_of a high) ≡ group_or_more t v (λ high. groups_of b high)
    by_test true e high = refl
    by_test false e high =
        let large = ltb-false v 128 e in
        ap (λ (run : List ℕ). (128 + v % 128) ∷ run) (high (omega arith) (omega arith))

-- the bytes of a number by its low group
pub number_small : (v : ℕ) → v < 128 → number_bytes v ≡ v ∷ []
unfolding number_bytes
number_small v small = one_group v v small

pub number_large : (group v : ℕ) → group < 128 → 0 < v → number_bytes (group + 128 * v) ≡ (128 + group) ∷ number_bytes v
unfolding number_bytes
number_large group v small some =
    let n = group + 128 * v in
    let enough : n ≡ suc (n - 1) = omega arith in
    ap (λ (k : ℕ). groups_of k n) enough
    ∙ more_groups (n - 1) n group v refl small some
    ∙ ap (λ (run : List ℕ). (128 + group) ∷ run) (alike_groups (n - 1) v v (omega arith) (omega arith))

some_groups : {v : ℕ} {run : List ℕ} → Groups v run → 0 < length run
some_groups (last small) = omega arith
some_groups (before small rest) = omega arith

fewest : {v : ℕ} {run : List ℕ} → Groups v run → length (number_bytes v) ≤ length run
fewest (last {group = group} small) = omega (arith, ap (length {A = ℕ}) (number_small group small))
fewest (before {group = group} {v = zero} {run = run} small rest) =
    omega (arith, ap (length {A = ℕ}) (number_small (group + 128 * 0) (omega arith)))
fewest (before {group = group} {v = suc v} {run = run} small rest) =
    omega (arith, ap (length {A = ℕ}) (number_large group (suc v) small (omega arith)), fewest rest)

pub only : {v : ℕ} {run : List ℕ} → Groups v run → length run ≤ length (number_bytes v) → run ≡ number_bytes v
only (last {group = group} small) short = sym (number_small group small)
only (before {group = group} {v = zero} {run = run} small rest) short =
    absurd (omega (arith, ap (length {A = ℕ}) (number_small (group + 128 * 0) (omega arith)), some_groups rest))
only (before {group = group} {v = suc v} {run = run} small rest) short =
    let is = number_large group (suc v) small (omega arith) in
    ap (λ (r : List ℕ). (128 + group) ∷ r) (only rest (omega (arith, ap (length {A = ℕ}) is))) ∙ sym is

-- three groups are enough for a number of a case
three-at-most : (v : ℕ) → v ≤ greatest → length (number_bytes v) ≤ 3
three-at-most v fits =
    let whole : v % 128 + 128 * (v / 128 % 128 + 128 * (v / 16384)) ≡ v = omega arith in
    let three = before {group = v % 128} (omega arith) (before {group = v / 128 % 128} (omega arith) (last {group = v / 16384} (omega arith))) in
    fewest (subst₂ (λ (n : ℕ) (run : List ℕ). Groups n run) whole refl three)

pub number_declared : NumberDeclared
unfolding number_bytes
number_declared =
    record {
      groups = λ v. are_groups v v (omega arith);
      fewest = λ v run groups. fewest groups;
      only = λ v run groups. only groups;
      three_at_most = three-at-most;
      reads = number_reads;
      stands = number_stands;
    }

pub text_declared : TextDeclared
text_declared =
    record {
      reads = text_reads;
      part = text_part_is;
      stands =
          λ bytes at start size are e.
          let read = text_stands bytes at start size are e in
          (read.stands, read.sized, omega (arith, read.sized, read.fits));
    }
