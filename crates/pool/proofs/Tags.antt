-- What a tag says: which tags there are, and the widths of the numbers behind each, against the format.
-- Assumes nothing.
use Rattle.std.specs.Prelude.{Ok, Err}
use Prim.Native.Nat.{ℕ, zero, suc, ◌+◌, ◌<◌}
use native.Mathlib.Nat.{add-zero, not-suc-le-zero, le_of_suc-le-suc, eq-or-lt_of_le}
use mathlib.Core.Path.{◌≡◌, refl, ◌∙◌, sym, subst}
use mathlib.Core.Bool.{Bool, true, false}
use mathlib.Core.Logic.{⊎_elim}
use mathlib.Core.List.{List, [], ◌∷◌}
use lib.Dec.{T, eqb, leb, ltb, ltb→lt}
use Rattle.basics.specs.Choice.{pick, both, alike, one_of}
use Rattle.basics.proofs.Every.{every_at, alike_is}
use Rattle.format.specs.Format.{number, done, number_at, right, go_on, read_by}
use Rattle.format.specs.Items.{run_of}
use Rattle.classformat.specs.ClassFile.{any, wide, right_tag, entry_format}
use Rattle.classformat.specs.declared.Entry.{Entry}
use Rattle.classformat.specs.declared.Entry.TheVariants.{Class, Member, Named, Other}
use Rattle.pool.specs.Pool.{first_width, second_width, passed_by}

-- ---- which tags there are

abbrev listed : ℕ → Bool
listed tag = one_of (1 ∷ 3 ∷ 4 ∷ 7 ∷ 8 ∷ 9 ∷ 10 ∷ 11 ∷ 12 ∷ 15 ∷ 16 ∷ 17 ∷ 18 ∷ 19 ∷ 20 ∷ []) tag

-- the same by ranges
abbrev pub ranged : ℕ → Bool
ranged tag = pick (ltb tag 3) (eqb tag 1) (pick (ltb tag 13) true (pick (ltb tag 15) false (ltb tag 21)))

pub tag_by_ranges : (left tag : ℕ) → tag < 256 → wide tag ≡ false → ranged tag ≡ right_tag left tag
tag_by_ranges left tag below narrow =
    let test : ℕ → Bool = λ t. pick (wide t) true (alike (ranged t) (listed t)) in
    let holds : T (alike (ranged tag) (listed tag)) =
    subst (λ (b : Bool). T (pick b true (alike (ranged tag) (listed tag)))) narrow (every_at test 256 tt tag below) in
    rw narrow (alike_is (ranged tag) (listed tag) holds)

right_is_listed : (b s t : Bool) → pick b s t ≡ true → pick b true t ≡ true
right_is_listed true s t is = refl
right_is_listed false s t is = is

-- there is none beyond 20
right_is_small : (left tag : ℕ) → tag < 256 → right_tag left tag ≡ true → tag < 21
right_is_small left tag below is =
    let test : ℕ → Bool = λ t. pick (pick (wide t) true (listed t)) (ltb t 21) true in
    let holds : T (ltb tag 21) =
    subst (λ (b : Bool). T (pick b (ltb tag 21) true)) (right_is_listed (wide tag) (ltb 0 left) (listed tag) is)
    (every_at test 256 tt tag below) in
    ltb→lt tag 21 holds

-- ---- one or two numbers

module _ (limit : ℕ) (file : List ℕ) where
  last_number :
      (at w : ℕ) (made : ℕ → Entry) →
      run_of (read_by (number w limit any (λ x. done (made x))) file at) ≡ pick (leb (at + w) limit) (Ok (at + w)) (Err at)
  unfolding read_by
  last_number at w made = by (leb (at + w) limit) (made (number_at w file at))
    where
      by : (s : Bool) (entry : Entry) → run_of (go_on (both s true) at (at + w) (λ end. right entry end)) ≡ pick s (Ok (at + w)) (Err at)
      by true entry = refl
      by false entry = refl

  one_number : (at w : ℕ) (made : ℕ → Entry) → run_of (read_by (number w limit any (λ x. done (made x))) file at) ≡ passed_by limit at w 0
  unfolding passed_by
  one_number at w made = rw (add-zero (at + w)) (last_number at w made ∙ by (leb (at + w) limit))
    where
      by : (s : Bool) → pick s (Ok (at + w)) (Err at) ≡ pick s (pick s (Ok (at + w)) (Err (at + w))) (Err at)
      by true = refl
      by false = refl

  two_numbers :
      (at w v : ℕ) (made : ℕ → ℕ → Entry) →
      run_of (read_by (number w limit any (λ x. number v limit any (λ y. done (made x y)))) file at) ≡ passed_by limit at w v
  unfolding read_by passed_by
  two_numbers at w v made = by (leb (at + w) limit) (made (number_at w file at))
    where
      by :
          (s : Bool) (with : ℕ → Entry) →
          run_of (go_on (both s true) at (at + w) (λ next. read_by (number v limit any (λ y. done (with y))) file next))
          ≡ pick s (pick (leb (at + w + v) limit) (Ok (at + w + v)) (Err (at + w))) (Err at)
      by true with = last_number (at + w) v with
      by false with = refl

  -- ---- behind every tag that is not a Utf8's

  module _ (at left : ℕ) where
    abbrev Passes : ℕ → Type 0
    Passes tag =
        T (right_tag left tag) → eqb tag 1 ≡ false →
        run_of (read_by (entry_format limit tag) file at) ≡ passed_by limit at (first_width tag) (second_width tag)

    abbrev Below : ℕ → Type 0
    Below zero = Unit {0}
    Below (suc n) = Below n × Passes n

    below_at : (n : ℕ) → Below n → (k : ℕ) → k < n → Passes k
    below_at zero all k below = absurd (not-suc-le-zero below)
    below_at (suc n) all k below =
        ⊎_elim (λ (e : k ≡ n). subst Passes (sym e) all.1) (λ (l : k < n). below_at n all.0 k l)
        (eq-or-lt_of_le (le_of_suc-le-suc below))

    no-text : true ≡ false → ⊥
    no-text e = subst T e tt

    each_tag : Below 21
    unfolding entry_format first_width second_width
    each_tag = (
      (
        (
          (
            (
              (
                (
                  (
                    (
                      (
                        (
                          (
                            (
                              (
                                (
                                  (
                                    (
                                      (
                                        (
                                          (
                                            (
                                              tt,
                                              λ t e. absurd t,
                                            ),
                                            λ t e. absurd (no-text e),
                                          ),
                                          λ t e. absurd t,
                                        ),
                                        λ t e. one_number at 4 (λ bytes. Other),
                                      ),
                                      λ t e. one_number at 4 (λ bytes. Other),
                                    ),
                                    λ t e. two_numbers at 4 4 (λ high low. Other),
                                  ),
                                  λ t e. two_numbers at 4 4 (λ high low. Other),
                                ),
                                λ t e. one_number at 2 (λ name. Class name),
                              ),
                              λ t e. one_number at 2 (λ index. Other),
                            ),
                            λ t e. two_numbers at 2 2 (λ class pair. Member 0 class pair),
                          ),
                          λ t e. two_numbers at 2 2 (λ class pair. Member 1 class pair),
                        ),
                        λ t e. two_numbers at 2 2 (λ class pair. Member 1 class pair),
                      ),
                      λ t e. two_numbers at 2 2 (λ name descriptor. Named name descriptor),
                    ),
                    λ t e. absurd t,
                  ),
                  λ t e. absurd t,
                ),
                λ t e. two_numbers at 1 2 (λ kind reference. Other),
              ),
              λ t e. one_number at 2 (λ index. Other),
            ),
            λ t e. two_numbers at 2 2 (λ bootstrap pair. Other),
          ),
          λ t e. two_numbers at 2 2 (λ bootstrap pair. Other),
        ),
        λ t e. one_number at 2 (λ index. Other),
      ),
      λ t e. one_number at 2 (λ index. Other),
    )

    pub behind_tag :
        (tag : ℕ) → tag < 256 → right_tag left tag ≡ true → eqb tag 1 ≡ false →
        run_of (read_by (entry_format limit tag) file at) ≡ passed_by limit at (first_width tag) (second_width tag)
    behind_tag tag byte is no_text =
        below_at 21 each_tag tag (right_is_small left tag byte is) (subst T (sym is) tt) no_text
