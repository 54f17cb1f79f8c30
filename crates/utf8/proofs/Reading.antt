-- A text that is judged right is the text of code units.
-- Rests on: the forms of a unit (Forms), and that a byte behind the first is 80 at least (Sizes).
-- Assumes nothing.
use Prim.Native.Nat.{ℕ, zero, suc, ◌+◌, ◌-◌, ◌*◌, ◌/◌, ◌%◌, ◌≤◌, ◌<◌}
use native.Mathlib.Omega.{arith}
use mathlib.Core.Bool.{Bool, true}
use mathlib.Core.List.{List, [], ◌∷◌, ◌++◌}
use mathlib.Core.Path.{◌≡◌, refl, ◌∙◌, sym, ap, ap₂, subst}
use lib.Dec.{T, eqb, leb, leb→le, eqb→eq}
use lib.ListN.{length, drop}
use lib.Seq.{drop-drop, get_or-drop}
use Rattle.basics.specs.Bytes.{byte_at}
use Rattle.basics.specs.Choice.{pick, both, between}
use Rattle.basics.proofs.Every.{both_first, both_second}
use Rattle.utf8.specs.Turning.{is_single, is_tail, is_pair, is_triple, size_by, size_of, right_after, right_by}
use Rattle.utf8.specs.Units.{unit_bytes, modified, Units, none, more}
use Rattle.utf8.proofs.Ranges.{in_range, from_low, to_high, chosen_if}
use Rattle.utf8.proofs.Forms.{x2, x3, y3, last, two, three}
use Rattle.utf8.proofs.Sizes.{pair_second, triple_second, triple_third}

-- ---- the unit of a form

record UnitOf (bytes : List ℕ) : Type 0 where
  unit : ℕ
  low : unit < 65536
  is : unit_bytes unit ≡ bytes

single_unit : (x : ℕ) → T (is_single x) → UnitOf (x ∷ [])
unfolding unit_bytes
single_unit x t =
    let high = to_high 1 127 x t in
    record { unit = x; low = omega (arith, high); is = rw (in_range 1 127 x (from_low 1 127 x t) high) }

module _ (x y : ℕ) where
  pair_of : 194 ≤ x → x ≤ 223 → 128 ≤ y → y ≤ 191 → UnitOf (x ∷ y ∷ [])
  pair_of a b c d =
      let u : ℕ = (x - 192) * 64 + (y - 128) in
      let first : x2 u ≡ x = omega arith in
      let second : last u ≡ y = omega arith in
      record { unit = u; low = omega arith; is = two u (omega arith) (omega arith) ∙ ap₂ (λ (i j : ℕ). i ∷ j ∷ []) first second }

  pair_unit : T (is_pair x y) → UnitOf (x ∷ y ∷ [])
  unfolding unit_bytes
  pair_unit =
      chosen_if (λ (b : Bool). T b → UnitOf (x ∷ y ∷ [])) (eqb x 192) (eqb y 128) (both (between 194 223 x) (is_tail y))
      (λ s t. record { unit = 0; low = omega arith; is = ap₂ (λ (i j : ℕ). i ∷ j ∷ []) (sym (eqb→eq x 192 s)) (sym (eqb→eq y 128 t)) })
      (λ t.
      let s = both_first (between 194 223 x) (is_tail y) t in
      let r = both_second (between 194 223 x) (is_tail y) t in
      pair_of (from_low 194 223 x s) (to_high 194 223 x s) (from_low 128 191 y r) (to_high 128 191 y r))

module _ (x y z : ℕ) where
  abbrev value : ℕ
  value = (x - 224) * 4096 + ((y - 128) * 64 + (z - 128))

  triple_of : 224 ≤ x → x ≤ 239 → 128 ≤ y → y ≤ 191 → 128 ≤ z → z ≤ 191 → 2048 ≤ value → UnitOf (x ∷ y ∷ z ∷ [])
  triple_of a b c d e f some =
      let u : ℕ = value in
      let first : x3 u ≡ x = omega arith in
      let middle : u / 64 % 64 ≡ y - 128 = in_the_middle (x - 224) (y - 128) (z - 128) (omega arith) (omega arith) in
      let second : y3 u ≡ y = omega (arith, middle) in
      let third : last u ≡ z = omega arith in
      let high : u < 65536 = omega arith in
      record {
        unit = u;
        low = high;
        is = three u some high ∙ ap₂ (λ (i : ℕ) (l : List ℕ). i ∷ l) first (ap₂ (λ (i j : ℕ). i ∷ j ∷ []) second third);
      }
    where
      in_the_middle : (i j k : ℕ) → j < 64 → k < 64 → (i * 4096 + (j * 64 + k)) / 64 % 64 ≡ j
      in_the_middle i j k p q = omega arith

  triple_unit : T (is_triple x y z) → UnitOf (x ∷ y ∷ z ∷ [])
  triple_unit t =
      chosen_if (λ (b : Bool). T b → UnitOf (x ∷ y ∷ z ∷ [])) (eqb x 224) (between 160 191 y) (both (between 225 239 x) (is_tail y))
      (λ s r.
      let is = eqb→eq x 224 s in
      let l = from_low 160 191 y r in
      triple_of (omega (arith, is)) (omega (arith, is)) (omega (arith, l)) (to_high 160 191 y r)
      (from_low 128 191 z third) (to_high 128 191 z third) (omega (arith, is, l)))
      (λ r.
      let s = both_first (between 225 239 x) (is_tail y) r in
      let q = both_second (between 225 239 x) (is_tail y) r in
      let l = from_low 225 239 x s in
      triple_of (omega (arith, l)) (to_high 225 239 x s) (from_low 128 191 y q) (to_high 128 191 y q)
      (from_low 128 191 z third) (to_high 128 191 z third) (omega (arith, l)))
      (both_second (is_tail z) (pick (eqb x 224) (between 160 191 y) (both (between 225 239 x) (is_tail y))) t)
    where
      third : T (is_tail z)
      third = both_first (is_tail z) (pick (eqb x 224) (between 160 191 y) (both (between 225 239 x) (is_tail y))) t

-- ---- the first unit of bytes

record FirstUnit (bytes : List ℕ) (size : ℕ) : Type 0 where
  unit : ℕ
  low : unit < 65536
  is : bytes ≡ unit_bytes unit ++ drop size bytes

with_rest :
    {first rest bytes : List ℕ} {size : ℕ} → UnitOf first → bytes ≡ first ++ rest → drop size bytes ≡ rest → FirstUnit bytes size
with_rest {first} {rest} {bytes} {size} u is d =
    record { unit = u.unit; low = u.low; is = is ∙ ap₂ ◌++◌ (sym u.is) (sym d) }

-- a list whose first byte is not 0 has one
begins : (bytes : List ℕ) → 128 ≤ byte_at bytes 0 → bytes ≡ byte_at bytes 0 ∷ drop 1 bytes
begins [] some = absurd (omega arith)
begins (x ∷ bytes) some = refl

first_unit : (bytes : List ℕ) → 0 < size_of bytes → FirstUnit bytes (size_of bytes)
unfolding size_of size_by
first_unit [] = λ some. absurd (omega (arith, some))
first_unit (x ∷ bytes) =
    chosen_if First (is_single x) 1 (pick (is_pair x y) 2 (pick (is_triple x y z) 3 0)) (λ t some. with_rest (single_unit x t) refl refl)
    (chosen_if First (is_pair x y) 2 (pick (is_triple x y z) 3 0)
    (λ t some. with_rest (pair_unit x y t) (ap (λ (l : List ℕ). x ∷ l) (begins bytes (pair_second x y t))) refl)
    (chosen_if First (is_triple x y z) 3 0
    (λ t some. with_rest (triple_unit x y z t) (ap (λ (l : List ℕ). x ∷ l) (two_more t)) (sym (drop-drop 1 1 bytes)))
    (λ some. absurd (omega (arith, some)))))
  where
    y : ℕ
    y = byte_at bytes 0

    z : ℕ
    z = byte_at bytes 1

    First : ℕ → Type 0
    First size = 0 < size → FirstUnit (x ∷ bytes) size

    two_more : T (is_triple x y z) → bytes ≡ y ∷ z ∷ drop 1 (drop 1 bytes)
    two_more t =
        begins bytes (triple_second x y z t)
        ∙ ap (λ (l : List ℕ). y ∷ l)
        (begins (drop 1 bytes) (rw get_or-drop (triple_third x y z t)) ∙ ap (λ (i : ℕ). i ∷ drop 1 (drop 1 bytes)) (get_or-drop 1 bytes 0 0))

-- ---- all of them

abbrev Read : List ℕ → Type 0
Read bytes = (units : List ℕ) × Units units × (bytes ≡ modified units)

nothing : (bytes : List ℕ) → T (leb (length bytes) 0) → Read bytes
unfolding modified
nothing [] t = ([], none, refl)
nothing (x ∷ bytes) t = absurd (omega (arith, leb→le (suc (length bytes)) 0 t))

pub units_of : (k : ℕ) (bytes : List ℕ) → T (right_by k bytes) → Read bytes
unfolding right_by modified
units_of zero bytes right = nothing bytes right
units_of (suc k) bytes right =
    chosen_if Judged (leb (length bytes) 0) true (right_after (size_of bytes) (λ size. right_by k (drop size bytes))) (λ t r. nothing bytes t)
    (by_size (size_of bytes) refl (λ list r. units_of k list r)) right
  where
    Judged : Bool → Type 0
    Judged b = T b → Read bytes

    by_size :
        (n : ℕ) → size_of bytes ≡ n → ((list : List ℕ) → T (right_by k list) → Read list) →
        T (right_after n (λ size. right_by k (drop size bytes))) → Read bytes
    by_size zero e onward r = absurd r
    by_size (suc n) e onward r =
        let first = subst (FirstUnit bytes) e (first_unit bytes (omega (arith, e))) in
        let rest = onward (drop (suc n) bytes) r in
        (first.unit ∷ rest.0, more first.low rest.1, first.is ∙ ap (λ (l : List ℕ). unit_bytes first.unit ++ l) rest.2)
