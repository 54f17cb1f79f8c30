-- What was right, of a file that is read: each item, what is due behind it, and each of a format that stands so many times.
-- Assumes nothing.
use Prim.Native.Nat.{ℕ, zero, suc, ◌+◌, ◌≤◌}
use native.Mathlib.Omega.{arith}
use mathlib.Core.Path.{◌≡◌, refl, ◌∙◌, sym, ap, subst}
use mathlib.Core.Bool.{Bool, true, false}
use mathlib.Core.List.Memᴰ
use mathlib.Core.List.{List, [], ◌∷◌, Memᴰ}
use lib.Dec.{leb}
use lib.ListN.{length}
use borrow.Author.Tests.{leb-true}
use Rattle.basics.specs.Choice.{both}
use Rattle.format.specs.Format.{Format, number, text, window, done, and_then, times, number_at, bytes_at, Reading, right, wrong, then_read, go_on, window_right, read_by}
use Rattle.format.proofs.Reading.{read_then}

-- ---- what a format that stands so many times makes

-- its first, and the rest
pub record FirstOf {A : Type 0} (one : Format A) (n : ℕ) (file : List ℕ) (at : ℕ) (xs : List A) (end : ℕ) : Type 0 where
  pub first : A
  pub rest : List A
  pub next : ℕ
  pub read : read_by one file at ≡ right first next
  pub onward : read_by (times n one) file next ≡ right rest end
  pub whole : xs ≡ first ∷ rest

pub first_of :
    {A : Type 0} (one : Format A) (n : ℕ) (file : List ℕ) (at : ℕ) {xs : List A} {end : ℕ} → read_by (times (suc n) one) file at ≡ right xs end →
    FirstOf one n file at xs end
unfolding times read_by
first_of {A} one n file at {xs} {end} is =
    by (read_by one file at) refl (sym (read_then (λ a. and_then (times n one) (λ more. done (a ∷ more))) file one at) ∙ is)
  where
    behind : (a : A) (next : ℕ) → read_by one file at ≡ right a next → (r : Reading (List A)) → read_by (times n one) file next ≡ r →
        then_read r (λ more stop. right (a ∷ more) stop) ≡ right xs end → FirstOf one n file at xs end
    behind a next e (right more stop) e' same =
        let list : xs ≡ a ∷ more = cc in
        let place : stop ≡ end = cc in
        record { first = a; rest = more; next = next; read = e; onward = e' ∙ ap (right more) place; whole = list }
    behind a next e (wrong place) e' same = let z : ◌≡◌ {A = ℕ} 0 1 = cc in absurd (omega arith)

    by : (r : Reading A) → read_by one file at ≡ r →
        then_read r (λ a next. read_by (and_then (times n one) (λ more. done (a ∷ more))) file next) ≡ right xs end → FirstOf one n file at xs end
    by (right a next) e same =
        behind a next e (read_by (times n one) file next) refl (sym (read_then (λ more. done (a ∷ more)) file (times n one) next) ∙ same)
    by (wrong place) e same = let z : ◌≡◌ {A = ℕ} 0 1 = cc in absurd (omega arith)

pub so_many :
    {A : Type 0} (one : Format A) (n : ℕ) (file : List ℕ) (at : ℕ) {xs : List A} {end : ℕ} → read_by (times n one) file at ≡ right xs end →
    length xs ≡ n
unfolding times read_by
so_many {A} one zero file at {xs} is = let none : xs ≡ [] = cc in rw none
so_many one (suc n) file at is =
    let f = first_of one n file at is in
    rw (f.whole, so_many one n file f.next f.onward)

-- ---- its items

module _ {A : Type 0} (file : List ℕ) (at : ℕ) {a : A} {end : ℕ} where
  pub number_was :
      (width limit : ℕ) (ok : ℕ → Bool) (following : ℕ → Format A) → read_by (number width limit ok following) file at ≡ right a end →
      (at + width ≤ limit) × (ok (number_at width file at) ≡ true)
      × (read_by (following (number_at width file at)) file (at + width) ≡ right a end)
  unfolding read_by
  number_was width limit ok following is = by (leb (at + width) limit) (ok (number_at width file at)) refl refl is
    where
      by :
          (t s : Bool) → leb (at + width) limit ≡ t → ok (number_at width file at) ≡ s →
          go_on (both t s) at (at + width) (λ n. read_by (following (number_at width file at)) file n) ≡ right a end →
          (at + width ≤ limit) × (ok (number_at width file at) ≡ true)
          × (read_by (following (number_at width file at)) file (at + width) ≡ right a end)
      by true true fits passes e = (leb-true (at + width) limit fits, passes, e)
      by true false fits passes e = let z : ◌≡◌ {A = ℕ} 0 1 = cc in absurd (omega arith)
      by false s fits passes e = let z : ◌≡◌ {A = ℕ} 0 1 = cc in absurd (omega arith)

  pub then_was :
      {B : Type 0} (format : Format B) (rest : B → Format A) → read_by (and_then format rest) file at ≡ right a end →
      (b : B) × (next : ℕ) × (read_by format file at ≡ right b next) × (read_by (rest b) file next ≡ right a end)
  then_was {B} format rest is = by (read_by format file at) refl (sym (read_then rest file format at) ∙ is)
    where
      by :
          (r : Reading B) → read_by format file at ≡ r → then_read r (λ b next. read_by (rest b) file next) ≡ right a end →
          (b : B) × (next : ℕ) × (read_by format file at ≡ right b next) × (read_by (rest b) file next ≡ right a end)
      by (right b next) e same = (b, next, e, same)
      by (wrong place) e same = let z : ◌≡◌ {A = ℕ} 0 1 = cc in absurd (omega arith)

module _ {A : Type 0} (file : List ℕ) (at : ℕ) {a : A} {end : ℕ} where
  pub text_was :
      (width limit : ℕ) (ok : ℕ → List ℕ → Bool) (following : ℕ → ℕ → Format A) → read_by (text width limit ok following) file at ≡ right a end →
      read_by (following (at + width) (number_at width file at)) file (at + width + number_at width file at) ≡ right a end
  unfolding read_by
  text_was width limit ok following is =
      by (window_right width limit file at) (ok (number_at width file at) (bytes_at file (at + width) (number_at width file at))) is
    where
      by :
          (t s : Bool) →
          go_on (both t s) at (at + width + number_at width file at) (λ n. read_by (following (at + width) (number_at width file at)) file n) ≡ right a end →
          read_by (following (at + width) (number_at width file at)) file (at + width + number_at width file at) ≡ right a end
      by true true e = e
      by true false e = let z : ◌≡◌ {A = ℕ} 0 1 = cc in absurd (omega arith)
      by false s e = let z : ◌≡◌ {A = ℕ} 0 1 = cc in absurd (omega arith)

  pub window_was :
      (width limit : ℕ) (following : ℕ → Format A) → read_by (window width limit following) file at ≡ right a end →
      read_by (following (at + width + number_at width file at)) file (at + width) ≡ right a end
  unfolding read_by
  window_was width limit following is = by (window_right width limit file at) is
    where
      by :
          (t : Bool) → go_on t at (at + width) (λ n. read_by (following (at + width + number_at width file at)) file n) ≡ right a end →
          read_by (following (at + width + number_at width file at)) file (at + width) ≡ right a end
      by true e = e
      by false e = let z : ◌≡◌ {A = ℕ} 0 1 = cc in absurd (omega arith)

-- each of a format that stands so many times was read somewhere
abbrev pub Stood : {A : Type 0} → Format A → List ℕ → A → Type 0
Stood one file a = (at : ℕ) × (next : ℕ) × (read_by one file at ≡ right a next)

pub all_stood :
    {A : Type 0} (one : Format A) (n : ℕ) (file : List ℕ) (at : ℕ) {xs : List A} {end : ℕ} → read_by (times n one) file at ≡ right xs end →
    (a : A) → Memᴰ a xs → Stood one file a
unfolding times read_by
all_stood one zero file at {xs} is a there =
    let none : xs ≡ [] = cc in absurd (Memᴰ.not-nil (subst (λ (l : List _). Memᴰ a l) none there))
all_stood {A} one (suc n) file at is a there =
    let f = first_of one n file at is in
    by f (subst (λ (l : List A). Memᴰ a l) f.whole there) (λ later. all_stood one n file f.next f.onward a later)
  where
    by :
        {xs : List A} {end : ℕ} (f : FirstOf one n file at xs end) → Memᴰ a (f.first ∷ f.rest) → (Memᴰ a f.rest → Stood one file a) →
        Stood one file a
    by f (Memᴰ.head same) later = (at, f.next, f.read ∙ ap (λ (x : A). right x f.next) (sym same))
    by f (Memᴰ.tail behind) later = later behind
