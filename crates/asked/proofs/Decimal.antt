-- A number in decimal digits, kept below 1001 while it is read: it names the same wording, and the digits behind it are read alike.
-- Assumes nothing.
use Prim.Native.Nat.{ℕ, suc, ◌+◌, ◌-◌, ◌*◌, ◌≤◌, ◌<◌, min}
use native.Mathlib.Omega.{arith}
use native.Mathlib.Numerals.{add-one}
use mathlib.Core.Path.{◌≡◌, refl, ◌∙◌, sym, ap}
use mathlib.Core.Bool.{Bool, true, false}
use mathlib.Core.List.{List, [], ◌∷◌}
use lib.Dec.{leb, ltb}
use lib.ListN.{length, get_or, drop, drop_of_length-le}
use lib.Seq.{drop-cons}
use borrow.Author.Tests.{leb-true, ltb-true, ltb-false}
use Rattle.basics.specs.Choice.{pick, both, between}
use Rattle.words.specs.Wording.{wording_by}
use Rattle.words.proofs.Wordings.{unknown}
use Rattle.asked.specs.Asked.{digits_behind, decimal_in}
use Rattle.asked.specs.declared.Word.TheVariants.{Number, Other}

-- a number that is cut down to 1000 names what it named
pub capped : (number : ℕ) → wording_by (min number 1000) ≡ wording_by number
capped number = by_test (ltb number 1000) refl
  where
    by_test : (b : Bool) → ltb number 1000 ≡ b → wording_by (min number 1000) ≡ wording_by number
    by_test true e =
        let same : min number 1000 ≡ number = omega (arith, ltb-true number 1000 e) in
        ap wording_by same
    by_test false e =
        let large : 1000 ≤ number = omega (arith, ltb-false number 1000 e) in
        unknown (min number 1000) (λ q. omega (arith, large, q)) (λ q. omega (arith, large, q))
        ∙ sym (unknown number (λ q. omega (arith, large, q)) (λ q. omega (arith, large, q)))

-- what is read of a text: a number, cut down, and the digits behind it
pub record Read (text : List ℕ) (value i : ℕ) : Type 0 where
  pub within : i ≤ length text
  pub number : ℕ
  pub cut : value ≡ min number 1000
  pub rest : digits_behind number (drop i text) ≡ digits_behind 0 text

-- ---- one byte more

-- what `digit_of` answers
abbrev digit : ℕ → ℕ
digit byte = pick (between 48 57 byte) (byte - 48) 10

second_true : (a b : Bool) → both a b ≡ true → b ≡ true
second_true true b e = e
second_true false b e = let z : ◌≡◌ {A = ℕ} 0 1 = cc in absurd (omega arith)

digit_small : (byte : ℕ) → between 48 57 byte ≡ true → byte - 48 ≤ 9
digit_small byte e = omega (arith, leb-true byte 57 (second_true (leb 48 byte) (leb byte 57) e))

module _ (text : List ℕ) (value i : ℕ) (r : Read text value i) (inside : i < length text) where
  abbrev byte : ℕ
  byte = get_or text i 0

  rest_is :
      pick (between 48 57 byte) (digits_behind (10 * r.number + (byte - 48)) (drop (suc i) text)) Other ≡ digits_behind 0 text
  rest_is = sym (ap (digits_behind r.number) (drop-cons text i 0 inside)) ∙ r.rest

  pub no_digit : 9 < digit byte → digits_behind 0 text ≡ Other
  no_digit = by_test (between 48 57 byte) refl rest_is
    where
      by_test :
          (b : Bool) → between 48 57 byte ≡ b →
          pick b (digits_behind (10 * r.number + (byte - 48)) (drop (suc i) text)) Other ≡ digits_behind 0 text →
          9 < pick b (byte - 48) 10 → digits_behind 0 text ≡ Other
      by_test true e same high = absurd (omega (arith, digit_small byte e, high))
      by_test false e same high = sym same

  pub one_digit : digit byte ≤ 9 → Read text (min (10 * value + digit byte) 1000) (i + 1)
  one_digit = by_test (between 48 57 byte) refl rest_is
    where
      by_test :
          (b : Bool) → between 48 57 byte ≡ b →
          pick b (digits_behind (10 * r.number + (byte - 48)) (drop (suc i) text)) Other ≡ digits_behind 0 text →
          pick b (byte - 48) 10 ≤ 9 → Read text (min (10 * value + pick b (byte - 48) 10) 1000) (i + 1)
      by_test true e same small =
          record {
            within = omega (arith, inside);
            number = 10 * r.number + (byte - 48);
            cut = omega (arith, r.cut);
            rest = rw add-one same;
          }
      by_test false e same small = absurd (omega (arith, small))

-- ---- the whole text

pub some_text : (text : List ℕ) → (length text ≡ 0 → ⊥) → decimal_in text ≡ digits_behind 0 text
some_text [] some = absurd (some refl)
some_text (d ∷ ds) some = refl

pub no-text : (text : List ℕ) → length text ≡ 0 → decimal_in text ≡ Other
no-text [] none = refl
no-text (d ∷ ds) none = absurd (omega (arith, none))

pub read_all : (text : List ℕ) (value i : ℕ) → Read text value i → length text ≤ i → digits_behind 0 text ≡ Number (wording_by value)
read_all text value i r past =
    sym r.rest ∙ ap (digits_behind r.number) (drop_of_length-le text past)
    ∙ ap Number (sym (capped r.number) ∙ ap wording_by (sym r.cut))
