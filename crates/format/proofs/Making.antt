-- What is known of everything that a format can make, by the rules of its items alone: a number is as small as its bytes let it be and
-- passes its test, and a text lies before its limit and passes its own. So what is read has whatever property the rules give.
-- Assumes nothing.
use Prim.Native.Nat.{ℕ, zero, suc, ◌+◌, ◌*◌, ◌^◌, ◌≤◌, ◌<◌}
use native.Mathlib.Nat.{pow-suc, mul-le-mul_right}
use native.Mathlib.Omega.{arith}
use mathlib.Core.Path.{◌≡◌, refl, sym, ap, subst}
use mathlib.Core.Bool.{Bool, true, false}
use mathlib.Core.List.Memᴰ
use mathlib.Core.List.{List, [], ◌∷◌, ◌++◌, Memᴰ}
use lib.Dec.{leb}
use lib.ListN.{length, get_or}
use borrow.Author.Tests.{leb-true}
use Rattle.basics.specs.Bytes.{byte_at, AreBytes}
use Rattle.basics.specs.Choice.{both}
use Rattle.format.specs.Format.{Format, number, text, window, full, here, done, and_then, times, each, number_at, bytes_at, Reading, right, wrong, go_on, window_right, read_by}

-- whatever comes of a format has a property
pub data Makes {A : Type 0} (file : List ℕ) (P : A → Type 0) : Format A → Type 0 where
  of_number :
      {width limit : ℕ} {ok : ℕ → Bool} {following : ℕ → Format A} →
      ((v : ℕ) → v < 256 ^ width → ok v ≡ true → Makes file P (following v)) → Makes file P (number width limit ok following)
  of_text :
      {width limit : ℕ} {ok : ℕ → List ℕ → Bool} {following : ℕ → ℕ → Format A} →
      ((start size : ℕ) → start + size ≤ limit → size < 256 ^ width → ok size (bytes_at file start size) ≡ true →
      Makes file P (following start size)) →
      Makes file P (text width limit ok following)
  of_window :
      {width limit : ℕ} {following : ℕ → Format A} → ((stop : ℕ) → stop ≤ limit → Makes file P (following stop)) →
      Makes file P (window width limit following)
  of_full : {limit : ℕ} {following : Format A} → Makes file P following → Makes file P (full limit following)
  of_here : {following : ℕ → Format A} → ((at : ℕ) → Makes file P (following at)) → Makes file P (here following)
  of_done : {a : A} → P a → Makes file P (done a)

-- ---- what is read has it

below_more : (byte power rest : ℕ) → byte < 256 → rest < power → byte * power + rest < power * 256
below_more byte power rest small less =
    let high : byte * power ≤ 255 * power = mul-le-mul_right power (omega (arith, small)) in
    omega (arith, high, less)

number_below : (file : List ℕ) → AreBytes file → (width at : ℕ) → number_at width file at < 256 ^ width
unfolding number_at
number_below file are zero at = omega arith
number_below file are (suc width) at =
    rw (pow-suc 256 width)
    (below_more (byte_at file at) (256 ^ width) (number_at width file (at + 1)) (are at) (number_below file are width (at + 1)))

module _ {A : Type 0} (P : A → Type 0) where
  abbrev Has : Reading A → Type 0
  Has (right a end) = P a
  Has (wrong place) = Unit {0}

  by_tests :
      (t s : Bool) (at next : ℕ) (read : ℕ → Reading A) → (t ≡ true → s ≡ true → Has (read next)) → Has (go_on (both t s) at next read)
  by_tests true true at next read so = so refl refl
  by_tests true false at next read so = tt
  by_tests false s at next read so = tt

  by_test : (t : Bool) (at next : ℕ) (read : ℕ → Reading A) → (t ≡ true → Has (read next)) → Has (go_on t at next read)
  by_test true at next read so = so refl
  by_test false at next read so = tt

  module _ (file : List ℕ) (are : AreBytes file) where
    has : {format : Format A} → Makes file P format → (at : ℕ) → Has (read_by format file at)
    unfolding read_by
    has (of_number {width} {limit} {ok} {following} makes) at =
        let v = number_at width file at in
        by_tests (leb (at + width) limit) (ok v) at (at + width) (λ next. read_by (following v) file next)
        (λ fits passes. has (makes v (number_below file are width at) passes) (at + width))
    has (of_text {width} {limit} {ok} {following} makes) at =
        let size = number_at width file at in
        by_tests (window_right width limit file at) (ok size (bytes_at file (at + width) size)) at (at + width + size)
        (λ next. read_by (following (at + width) size) file next)
        (λ fits passes.
        has (makes (at + width) size (leb-true (at + width + size) limit fits) (number_below file are width at) passes) (at + width + size))
    has (of_window {width} {limit} {following} makes) at =
        let stop = at + width + number_at width file at in
        by_test (window_right width limit file at) at (at + width) (λ next. read_by (following stop) file next)
        (λ fits. has (makes stop (leb-true stop limit fits)) (at + width))
    has (of_full {limit} {following} makes) at =
        by_test (leb limit at) at at (λ next. read_by following file next) (λ all. has makes at)
    has (of_here makes) at = has (makes at) at
    has (of_done so) at = so

    pub read_has : {format : Format A} → Makes file P format → (at : ℕ) {end : ℕ} {a : A} → read_by format file at ≡ right a end → P a
    read_has makes at is = subst Has is (has makes at)

-- ---- each of a list has a property

abbrev pub Every : {A : Type 0} → (A → Type 0) → List A → Type 0
Every P [] = Unit {0}
Every P (a ∷ more) = P a × Every P more

module _ {A : Type 0} (P : A → Type 0) where
  pub every_append : (xs ys : List A) → Every P xs → Every P ys → Every P (xs ++ ys)
  every_append [] ys all those = those
  every_append (x ∷ xs) ys (one, more) those = (one, every_append xs ys more those)

  pub every_at : (xs : List A) (otherwise : A) → Every P xs → P otherwise → (i : ℕ) → P (get_or xs i otherwise)
  every_at [] otherwise all so i = so
  every_at (x ∷ xs) otherwise (one, more) so zero = one
  every_at (x ∷ xs) otherwise (one, more) so (suc i) = every_at xs otherwise more so i

  pub every_among : (xs : List A) → Every P xs → {a : A} → Memᴰ a xs → P a
  every_among [] all there = absurd (Memᴰ.not-nil there)
  every_among (x ∷ xs) (one, more) (Memᴰ.head is) = subst P (sym is) one
  every_among (x ∷ xs) (one, more) (Memᴰ.tail behind) = every_among xs more behind

-- ---- one format behind another, and a format so many times

pub makes_then :
    {A B : Type 0} {file : List ℕ} {P : A → Type 0} {Q : B → Type 0} {format : Format A} {rest : A → Format B} →
    Makes file P format → ((a : A) → P a → Makes file Q (rest a)) → Makes file Q (and_then format rest)
unfolding and_then
makes_then (of_number makes) onward = of_number (λ v small passes. makes_then (makes v small passes) onward)
makes_then (of_text makes) onward = of_text (λ start size fits small passes. makes_then (makes start size fits small passes) onward)
makes_then (of_window makes) onward = of_window (λ stop fits. makes_then (makes stop fits) onward)
makes_then (of_full makes) onward = of_full (makes_then makes onward)
makes_then (of_here makes) onward = of_here (λ at. makes_then (makes at) onward)
makes_then (of_done {a} so) onward = onward a so

pub makes_times :
    {A : Type 0} {file : List ℕ} {P : A → Type 0} {one : Format A} (count : ℕ) → Makes file P one →
    Makes file (λ (made : List A). (length made ≡ count) × Every P made) (times count one)
unfolding times
makes_times zero makes = of_done (refl, tt)
makes_times (suc n) makes =
    makes_then makes (λ a so. makes_then (makes_times n makes) (λ more those. of_done (ap suc those.0, (so, those.1))))

pub makes_each :
    {A : Type 0} {file : List ℕ} {P : A → Type 0} {one : A → Format A} (count : ℕ) → ((a : A) → P a → Makes file P (one a)) →
    {a : A} → P a → Makes file P (each count one a)
unfolding each
makes_each zero makes so = of_done so
makes_each (suc n) makes {a} so = makes_then (makes a so) (λ b next. makes_each n makes next)
