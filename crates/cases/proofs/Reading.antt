-- Numbers and texts read back: what stands at a place is read there, and what is read stands there.
-- Assumes nothing.
use Rattle.std.specs.Prelude.{Option, Some, None}
use Rattle.std.proofs.lemmas.Option.{some_pair_parts}
use Prim.Native.Nat.{ℕ, zero, suc, ◌+◌, ◌-◌, ◌*◌, ◌/◌, ◌%◌, ◌≤◌, ◌<◌}
use native.Mathlib.Omega.{arith}
use mathlib.Core.Path.{◌≡◌, refl, ◌∙◌, sym, ap, ap₂, subst}
use mathlib.Core.Bool.{Bool, true, false}
use mathlib.Core.List.{List, [], ◌∷◌, ◌++◌, append_assoc}
use lib.Dec.{eqb, ltb, leb}
use lib.ListN.{length, take, drop, length-append, length-take, length-drop, take-append-drop}
use lib.Seq.{drop-drop, drop-append_seam, take-append_seam, get_or-drop}
use borrow.Author.Tests.{lt-ltb, le-ltb, le-leb, ne_eqb, ltb-true, ltb-false, eqb-false, leb-true}
use Rattle.basics.specs.Bytes.{AreBytes}
use Rattle.basics.specs.Choice.{pick}
use Rattle.number.specs.Number.{greatest, groups_of, number_bytes, further, grouped, number_from, limited, number_at, then_number}
use Rattle.items.specs.Text.{text_bytes, text_at}
use Rattle.cases.specs.Standing.{Stands}

-- ---- what stands at a place

module _ (bytes : List ℕ) (at : ℕ) where
  pub first_stands : (a b : List ℕ) → Stands bytes at (a ++ b) → Stands bytes at a
  first_stands a b s = record { rest = b ++ s.rest; is = s.is ∙ append_assoc a b s.rest }

  behind : (a rest : List ℕ) → drop at bytes ≡ a ++ rest → drop (at + length a) bytes ≡ rest
  behind a rest e = sym (drop-drop (length a) at bytes) ∙ ap (drop (length a)) e ∙ drop-append_seam a rest

  pub second_stands : (a b : List ℕ) → Stands bytes at (a ++ b) → Stands bytes (at + length a) b
  second_stands a b s = record { rest = s.rest; is = behind a (b ++ s.rest) (s.is ∙ append_assoc a b s.rest) }

  pub both_stand : (a b : List ℕ) → Stands bytes at a → Stands bytes (at + length a) b → Stands bytes at (a ++ b)
  both_stand a b s t =
      record {
        rest = t.rest;
        is = s.is ∙ ap (λ (r : List ℕ). a ++ r) (sym (behind a s.rest s.is) ∙ t.is) ∙ sym (append_assoc a b t.rest);
      }

  pub nothing_stands : Stands bytes at []
  nothing_stands = record { rest = drop at bytes; is = refl }

  -- it is the part of that length
  pub standing_part : (a : List ℕ) → Stands bytes at a → take (length a) (drop at bytes) ≡ a
  standing_part a s = ap (take (length a)) s.is ∙ take-append_seam a s.rest

  pub part_stands : (n : ℕ) → Stands bytes at (take n (drop at bytes))
  part_stands n = record { rest = drop n (drop at bytes); is = sym (take-append-drop n (drop at bytes)) }

  pub standing_within : (a : List ℕ) → Stands bytes at a → 0 < length a → at + length a ≤ length bytes
  standing_within a s some =
      omega (arith, length-drop at bytes, ap (length {A = ℕ}) s.is, length-append a s.rest)

pub bytes_behind : (bytes : List ℕ) (at : ℕ) → AreBytes bytes → AreBytes (drop at bytes)
bytes_behind bytes at are i = subst (λ (b : ℕ). b < 256) (sym (get_or-drop at bytes i 0)) (are (at + i))

-- ---- a number that stands is read

from_groups :
    (k v : ℕ) → v ≤ k → (rest : List ℕ) (at : ℕ) →
    number_from (groups_of k v ++ rest) at ≡ Some (v, at + length (groups_of k v))
unfolding number_from groups_of
from_groups zero v enough rest at = let small : v < 128 = omega arith in rw (lt-ltb v 128 small)
from_groups (suc k) v enough rest at = by_test (ltb v 128) refl (λ less. from_groups k (v / 128) less rest (at + 1))
  where
    by_test :
        (t : Bool) → ltb v 128 ≡ t →
        (v / 128 ≤ k → number_from (groups_of k (v / 128) ++ rest) (at + 1) ≡ Some (v / 128, at + 1 + length (groups_of k (v / 128)))) →
        number_from (groups_of (suc k) v ++ rest) at ≡ Some (v, at + length (groups_of (suc k) v))
    by_test true e high = rw (e, e)
    by_test false e high =
        let large : 128 ≤ v = ltb-false v 128 e in
        let some : v / 128 ≡ 0 → ⊥ = λ z. omega (arith, z) in
        rw (e, le-ltb (128 + v % 128) 128 (omega arith), high (omega arith), ne_eqb (v / 128) 0 some)
        (ap₂ (λ w after. Some (w, after)) (omega arith) (omega arith))

pub number_reads :
    (limit : ℕ) (bytes : List ℕ) (at v : ℕ) → v ≤ limit → Stands bytes at (number_bytes v) →
    number_at limit bytes at ≡ Some (v, at + length (number_bytes v))
unfolding number_at number_bytes
number_reads limit bytes at v fits s = rw (s.is, from_groups v v (omega arith) s.rest at, le-leb v limit fits)

-- ---- a number that is read stands

-- a run of bytes starts with the groups of the number read from it
abbrev StartsWith : List ℕ → ℕ → Option (ℕ × ℕ) → Type 0
StartsWith run at (Some (v, next)) =
    (k : ℕ) → v ≤ k → (rest : List ℕ) × (run ≡ groups_of k v ++ rest) × (next ≡ at + length (groups_of k v))
StartsWith run at None = Unit {0}

pub one_group : (k v : ℕ) → v < 128 → groups_of k v ≡ v ∷ []
unfolding groups_of
one_group zero v small = refl
one_group (suc k) v small = rw (lt-ltb v 128 small)

pub more_groups : (k v low high : ℕ) → v ≡ low + 128 * high → low < 128 → 0 < high → groups_of (suc k) v ≡ (128 + low) ∷ groups_of k high
unfolding groups_of
more_groups k v low high e small some =
    let large : 128 ≤ v = omega arith in
    let remains : v % 128 ≡ low = omega arith in
    let over : v / 128 ≡ high = omega arith in
    rw (le-ltb v 128 large, remains, over)

starts_with : (run : List ℕ) (at : ℕ) → AreBytes run → StartsWith run at (number_from run at)
unfolding number_from
starts_with [] at are = tt
starts_with (group ∷ rest) at are =
    by_test (ltb group 128) refl (starts_with rest (at + 1) (λ i. are (suc i)))
  where
    byte : group < 256
    byte = are 0

    by_more :
        128 ≤ group → (n : Option (ℕ × ℕ)) → StartsWith rest (at + 1) n → StartsWith (group ∷ rest) at (further (group - 128) n)
    by_more large (Some (high, next)) h = by_zero (eqb high 0) refl
      where
        by_zero :
            (z : Bool) → eqb high 0 ≡ z → StartsWith (group ∷ rest) at (pick z None (Some (group - 128 + 128 * high, next)))
        by_zero true e = tt
        by_zero false e = groups
          where
            groups :
                (k : ℕ) → group - 128 + 128 * high ≤ k →
                (following : List ℕ) × (group ∷ rest ≡ groups_of k (group - 128 + 128 * high) ++ following)
                × (next ≡ at + length (groups_of k (group - 128 + 128 * high)))
            groups zero enough =
                let some : high ≡ 0 → ⊥ = eqb-false high 0 e in
                absurd (some (omega arith))
            groups (suc k) enough =
                let some : high ≡ 0 → ⊥ = eqb-false high 0 e in
                let above : 0 < high = omega arith in
                let following = h k (omega arith) in
                let same : 128 + (group - 128) ≡ group = omega arith in
                let is = more_groups k (group - 128 + 128 * high) (group - 128) high refl (omega (arith, byte)) above in
                (following.0, rw (is, same, ← following.1), rw is (omega (arith, following.2)))
    by_more large None h = tt

    by_test :
        (t : Bool) → ltb group 128 ≡ t → StartsWith rest (at + 1) (number_from rest (at + 1)) →
        StartsWith (group ∷ rest) at (grouped t group at (λ next. number_from rest next))
    by_test true e h =
        λ k enough. (
          rest,
          rw (one_group k group (ltb-true group 128 e)),
          rw (one_group k group (ltb-true group 128 e)),
        )
    by_test false e h = by_more (ltb-false group 128 e) (number_from rest (at + 1)) h

pub number_stands :
    (limit : ℕ) (bytes : List ℕ) (at v next : ℕ) → AreBytes bytes → number_at limit bytes at ≡ Some (v, next) →
    Stands bytes at (number_bytes v) × (next ≡ at + length (number_bytes v)) × (v ≤ limit)
unfolding number_at number_bytes
number_stands limit bytes at v next are e =
    of (number_from (drop at bytes) at) (starts_with (drop at bytes) at (bytes_behind bytes at are)) e
  where
    of :
        (n : Option (ℕ × ℕ)) → StartsWith (drop at bytes) at n → limited limit n ≡ Some (v, next) →
        Stands bytes at (groups_of v v) × (next ≡ at + length (groups_of v v)) × (v ≤ limit)
    of (Some (w, after)) h q = by_test (leb w limit) refl q
      where
        by_test :
            (t : Bool) → leb w limit ≡ t → pick {A = Option (ℕ × ℕ)} t (Some (w, after)) None ≡ Some (v, next) →
            Stands bytes at (groups_of v v) × (next ≡ at + length (groups_of v v)) × (v ≤ limit)
        by_test true f q =
            let parts = some_pair_parts w v after next q in
            let same : w ≡ v = parts.0 in
            let there : after ≡ next = parts.1 in
            let groups = h w (omega arith) in
            let stands : Stands bytes at (groups_of w w) = record { rest = groups.0; is = groups.1 } in (
              subst (λ (x : ℕ). Stands bytes at (groups_of x x)) same stands,
              sym there ∙ groups.2 ∙ ap (λ (x : ℕ). at + length (groups_of x x)) same,
              omega (arith, same, leb-true w limit f),
            )
        by_test false f q = let z : ◌≡◌ {A = ℕ} 0 1 = cc in absurd (omega arith)
    of None h q = let z : ◌≡◌ {A = ℕ} 0 1 = cc in absurd (omega arith)

-- ---- texts

-- a text that stands is read
pub text_reads :
    (bytes : List ℕ) (at : ℕ) (t : List ℕ) → length t ≤ greatest → Stands bytes at (text_bytes t) →
    text_at bytes at ≡ Some (at + length (number_bytes (length t)), length t)
unfolding text_at text_bytes
text_reads bytes at t fits s =
    let size = first_stands bytes at (number_bytes (length t)) t s in
    let own = second_stands bytes at (number_bytes (length t)) t s in
    let start = at + length (number_bytes (length t)) in
    let inside : length t ≤ length bytes - start =
    omega (arith, length-drop start bytes, ap (length {A = ℕ}) own.is, length-append t own.rest) in
    rw (number_reads greatest bytes at (length t) fits size, le-leb (length t) (length bytes - start) inside)

-- its bytes are the part of that start and length
pub text_part_is :
    (bytes : List ℕ) (at : ℕ) (t : List ℕ) → Stands bytes at (text_bytes t) →
    take (length t) (drop (at + length (number_bytes (length t))) bytes) ≡ t
unfolding text_bytes
text_part_is bytes at t s =
    standing_part bytes (at + length (number_bytes (length t))) t (second_stands bytes at (number_bytes (length t)) t s)

-- a text that is read stands
pub record TextStands (bytes : List ℕ) (at start size : ℕ) : Type 0 where
  pub stands : Stands bytes at (text_bytes (take size (drop start bytes)))
  pub sized : length (take size (drop start bytes)) ≡ size
  pub fits : length (take size (drop start bytes)) ≤ greatest
  pub ends : start + size ≡ at + length (text_bytes (take size (drop start bytes)))

pub text_stands :
    (bytes : List ℕ) (at start size : ℕ) → AreBytes bytes → text_at bytes at ≡ Some (start, size) → TextStands bytes at start size
unfolding text_at text_bytes
text_stands bytes at start size are e = of (number_at greatest bytes at) refl e
  where
    there :
        number_at greatest bytes at ≡ Some (size, start) → size ≤ length bytes - start → TextStands bytes at start size
    there q inside =
        let read = number_stands greatest bytes at size start are q in
        let own = take size (drop start bytes) in
        let sized : length own ≡ size = omega (arith, length-take size (drop start bytes), length-drop start bytes) in
        let number : Stands bytes at (number_bytes (length own)) = subst (λ (n : ℕ). Stands bytes at (number_bytes n)) (sym sized) read.0 in
        let place : start ≡ at + length (number_bytes (length own)) = rw sized read.1 in
        record {
          stands =
              both_stand bytes at (number_bytes (length own)) own number
              (subst (λ (n : ℕ). Stands bytes n own) place (part_stands bytes start size));
          sized = sized;
          fits = omega (arith, sized, read.2);
          ends = omega (arith, sized, place, length-append (number_bytes (length own)) own);
        }

    of :
        (n : Option (ℕ × ℕ)) → number_at greatest bytes at ≡ n →
        then_number {A = Option (ℕ × ℕ)} n None (λ m s. pick (leb m (length bytes - s)) (Some (s, m)) None) ≡ Some (start, size) →
        TextStands bytes at start size
    of (Some (m, s)) q f = by_test (leb m (length bytes - s)) refl f
      where
        by_test :
            (t : Bool) → leb m (length bytes - s) ≡ t → pick {A = Option (ℕ × ℕ)} t (Some (s, m)) None ≡ Some (start, size) →
            TextStands bytes at start size
        by_test true h g =
            let parts = some_pair_parts s start m size g in
            let sizes : m ≡ size = parts.1 in
            let starts : s ≡ start = parts.0 in
            let same : number_at greatest bytes at ≡ Some (size, start) = cc in
            there same (omega (arith, sizes, starts, leb-true m (length bytes - s) h))
        by_test false h g = let z : ◌≡◌ {A = ℕ} 0 1 = cc in absurd (omega arith)
    of None q f = let z : ◌≡◌ {A = ℕ} 0 1 = cc in absurd (omega arith)
