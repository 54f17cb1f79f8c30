-- The table leads to each entry of the pool: an entry that the format reads is the one that is found by its place, and the places are those
-- of the entries, number by number.
-- Assumes nothing.
use Rattle.std.specs.Prelude.{Result, Ok, Err}
use Prim.Native.Nat.{ℕ, zero, suc, ◌+◌, ◌-◌, ◌≤◌, ◌<◌}
use native.Mathlib.Omega.{arith}
use mathlib.Core.Path.{◌≡◌, refl, ◌∙◌, sym, ap, subst}
use mathlib.Core.Bool.{Bool, true, false}
use mathlib.Core.List.{List, [], ◌∷◌}
use lib.Dec.{eqb, leb}
use lib.ListN.{length, get_or}
use borrow.Author.Tests.{lt-ltb, ne_eqb, leb-true, leb-false}
use Rattle.basics.specs.Bytes.{byte_at, u16_at}
use Rattle.basics.specs.Choice.{pick, one_of}
use Rattle.utf8.specs.Turning.{is_modified}
use Rattle.format.specs.Format.{Format, number, text, done, number_at, number_right, text_right, Reading, right, wrong, then_read, go_on, read_by}
use Rattle.format.specs.Items.{run_of}
use Rattle.format.proofs.Items.{two_bytes}
use Rattle.format.proofs.Reading.{reads_on}
use Rattle.classformat.specs.ClassFile.{any, wide, right_tag, entry_format, pool_format}
use Rattle.classformat.specs.Contents.{Pool}
use Rattle.classformat.specs.declared.Entry.{Entry}
use Rattle.classformat.specs.declared.Entry.TheVariants.{Text, Class, Member, Named, Other, Nothing}
use Rattle.entries.specs.Entries.{entry_behind, entry_at}
use Rattle.pool.specs.Pool.{tagged_format, place_then, places_by, places_in, placed, TableServes}
use Rattle.pool.proofs.Entries.{cut_tag, bad_tag, good_tag, with_entry, entry_more, by_entry, behind-wide}

-- ---- an entry that is read is the one that its place leads to

abbrev Made : Reading Entry → Entry → Type 0
Made (right entry end) found = found ≡ entry
Made (wrong place) found = Unit {0}

if_right :
    (t : Bool) (at next : ℕ) (read : ℕ → Reading Entry) (found : Entry) → Made (read next) found → Made (go_on t at next read) found
if_right true at next read found so = so
if_right false at next read found so = tt

module _ (file : List ℕ) (limit : ℕ) where
  -- an entry of one number, of two numbers, and of a text
  abbrev single : ℕ → (ℕ → Entry) → Format Entry
  single w made = number w limit any (λ x. done (made x))

  abbrev double : ℕ → ℕ → (ℕ → ℕ → Entry) → Format Entry
  double w v made = number w limit any (λ x. number v limit any (λ y. done (made x y)))

  abbrev modified : Format Entry
  modified = text 2 limit (λ size bytes. is_modified bytes) (λ start size. done (Text start size))

  of_one : (at w : ℕ) (made : ℕ → Entry) → Made (read_by (single w made) file at) (made (number_at w file at))
  unfolding read_by
  of_one at w made =
      if_right (number_right w limit any file at) at (at + w) (λ end. right (made (number_at w file at)) end) (made (number_at w file at)) refl

  of_two :
      (at w v : ℕ) (made : ℕ → ℕ → Entry) →
      Made (read_by (double w v made) file at) (made (number_at w file at) (number_at v file (at + w)))
  unfolding read_by
  of_two at w v made =
      let first = number_at w file at in
      if_right (number_right w limit any file at) at (at + w) (λ next. read_by (single v (made first)) file next)
      (made first (number_at v file (at + w))) (of_one (at + w) v (made first))

  of_text : (at : ℕ) → Made (read_by modified file at) (Text (at + 2) (number_at 2 file at))
  unfolding read_by
  of_text at =
      let size = number_at 2 file at in
      if_right (text_right 2 limit (λ size bytes. is_modified bytes) file at) at (at + 2 + size) (λ end. right (Text (at + 2) size) end)
      (Text (at + 2) size) refl

  -- by the tests of the tag, with the two numbers behind it
  abbrev Found : ℕ → ℕ → ℕ → (utf8 class field method pair index dynamic handle long : Bool) → Type 0
  Found at v w utf8 class field method pair index dynamic handle long =
      Made
      (read_by
      (pick utf8 modified
      (pick class (single 2 Class)
      (pick field (double 2 2 (Member 0))
      (pick method (double 2 2 (Member 1))
      (pick pair (double 2 2 Named)
      (pick index (single 2 (λ x. Other))
      (pick dynamic (double 2 2 (λ x y. Other))
      (pick handle (double 1 2 (λ x y. Other))
      (pick long (double 4 4 (λ x y. Other))
      (single 4 (λ x. Other)))))))))))
      file at)
      (pick utf8 (Text (at + 2) v)
      (pick class (Class v) (pick field (Member 0 v w) (pick method (Member 1 v w) (pick pair (Named v w) Other)))))

  by_tests :
      (at : ℕ) (utf8 class field method pair index dynamic handle long : Bool) →
      Found at (number_at 2 file at) (number_at 2 file (at + 2)) utf8 class field method pair index dynamic handle long
  by_tests at true class field method pair index dynamic handle long = of_text at
  by_tests at false true field method pair index dynamic handle long = of_one at 2 Class
  by_tests at false false true method pair index dynamic handle long = of_two at 2 2 (Member 0)
  by_tests at false false false true pair index dynamic handle long = of_two at 2 2 (Member 1)
  by_tests at false false false false true index dynamic handle long = of_two at 2 2 Named
  by_tests at false false false false false true dynamic handle long = of_one at 2 (λ x. Other)
  by_tests at false false false false false false true handle long = of_two at 2 2 (λ x y. Other)
  by_tests at false false false false false false false true long = of_two at 1 2 (λ x y. Other)
  by_tests at false false false false false false false false true = of_two at 4 4 (λ x y. Other)
  by_tests at false false false false false false false false false = of_one at 4 (λ x. Other)

  behind_tag : (at tag : ℕ) → Made (read_by (entry_format limit tag) file at) (entry_behind file tag at)
  unfolding entry_format entry_behind
  behind_tag at tag =
      let found : ℕ → ℕ → Type 0 =
      λ v w.
      Found at v w (eqb tag 1) (eqb tag 7) (eqb tag 9) (one_of (10 ∷ 11 ∷ []) tag) (eqb tag 12) (one_of (8 ∷ 16 ∷ 19 ∷ 20 ∷ []) tag)
      (one_of (17 ∷ 18 ∷ []) tag) (eqb tag 15) (wide tag) in
      subst (λ (v : ℕ). found v (u16_at file (at + 2))) (two_bytes file at)
      (subst (λ (w : ℕ). found (number_at 2 file at) w) (two_bytes file (at + 2))
      (by_tests at (eqb tag 1) (eqb tag 7) (eqb tag 9) (one_of (10 ∷ 11 ∷ []) tag) (eqb tag 12) (one_of (8 ∷ 16 ∷ 19 ∷ 20 ∷ []) tag)
      (one_of (17 ∷ 18 ∷ []) tag) (eqb tag 15) (wide tag)))

module _ (file : List ℕ) where
  at_place : (at : ℕ) → 0 < at → at < length file → entry_at file at ≡ entry_behind file (byte_at file at) (at + 1)
  unfolding entry_at
  at_place at some inside = rw (ne_eqb at 0 (omega (arith, some)), lt-ltb at (length file) inside)

  tagged : (at left : ℕ) → 0 < at → Made (read_by (tagged_format (length file) left) file at) (entry_at file at)
  tagged at left some = by (leb (at + 1) (length file)) (right_tag left (byte_at file at)) refl refl
    where
      Reads : Reading Entry → Type 0
      Reads r = Made r (entry_at file at)

      by :
          (t s : Bool) → leb (at + 1) (length file) ≡ t → right_tag left (byte_at file at) ≡ s →
          Made (read_by (tagged_format (length file) left) file at) (entry_at file at)
      by false s fits is = subst Reads (sym (cut_tag file (length file) at left (leb-false (at + 1) (length file) fits))) tt
      by true false fits is = subst Reads (sym (bad_tag file (length file) at left (leb-true (at + 1) (length file) fits) is)) tt
      by true true fits is =
          let inside = leb-true (at + 1) (length file) fits in
          subst Reads (sym (good_tag file (length file) at left inside is))
          (subst (λ (entry : Entry). Made (read_by (entry_format (length file) (byte_at file at)) file (at + 1)) entry)
          (sym (at_place at some (omega (arith, inside)))) (behind_tag file (length file) (at + 1) (byte_at file at)))

  -- ---- the places are those of the entries

  abbrev Agree : List ℕ → Reading Pool → Type 0
  Agree places (right entries end) = (i : ℕ) → entry_at file (get_or places i 0) ≡ get_or entries i Nothing
  Agree places (wrong offset) = Unit {0}

  no_entry : entry_at file 0 ≡ Nothing
  unfolding entry_at
  no_entry = refl

  agree_more :
      (place : ℕ) (places : List ℕ) (entry : Entry) (left : ℕ) (behind_wide : Bool) (next : ℕ) → entry_at file place ≡ entry →
      Agree places (read_by (pool_format (length file) left behind_wide) file next) →
      Agree (place ∷ places) (with_entry file (length file) left behind_wide entry next)
  agree_more place places entry left behind_wide next one more =
      subst (λ (r : Reading Pool). Agree (place ∷ places) r) (sym (entry_more file (length file) left behind_wide entry next))
      (by (read_by (pool_format (length file) left behind_wide) file next) more)
    where
      by : (r : Reading Pool) → Agree places r → Agree (place ∷ places) (then_read r (λ entries end. right (entry ∷ entries) end))
      by (right entries end) so = λ i. at_number i
        where
          at_number : (i : ℕ) → entry_at file (get_or (place ∷ places) i 0) ≡ get_or (entry ∷ entries) i Nothing
          at_number zero = one
          at_number (suc i) = so i
      by (wrong offset) so = tt

  agree_none : (behind_wide : Bool) (at : ℕ) → Agree (places_by file zero behind_wide at) (read_by (pool_format (length file) zero behind_wide) file at)
  unfolding places_by pool_format read_by
  agree_none behind_wide at = λ i. no_entry

  agree_wide :
      (left at : ℕ) → Agree (places_by file left false at) (read_by (pool_format (length file) left false) file at) →
      Agree (places_by file (suc left) true at) (read_by (pool_format (length file) (suc left) true) file at)
  unfolding places_by
  agree_wide left at more =
      subst (λ (r : Reading Pool). Agree (places_by file (suc left) true at) r) (sym (behind-wide file (length file) at left))
      (agree_more 0 (places_by file left false at) Nothing left false at no_entry more)

  agree_entry :
      (left at : ℕ) → 0 < at →
      ((next : ℕ) → 0 < next →
      Agree (places_by file left (wide (byte_at file at)) next) (read_by (pool_format (length file) left (wide (byte_at file at))) file next)) →
      Agree (places_by file (suc left) false at) (read_by (pool_format (length file) (suc left) false) file at)
  unfolding places_by
  agree_entry left at some further =
      subst (λ (r : Reading Pool). Agree (places_by file (suc left) false at) r) (sym (by_entry file (length file) at left))
      (by (read_by (tagged_format (length file) left) file at) refl)
    where
      by :
          (r : Reading Entry) → read_by (tagged_format (length file) left) file at ≡ r →
          Agree (place_then at (run_of r) (λ next. places_by file left (wide (byte_at file at)) next))
          (then_read r (with_entry file (length file) left (wide (byte_at file at))))
      by (right entry next) is =
          let on = reads_on (tagged_format (length file) left) file at entry next is in
          agree_more at (places_by file left (wide (byte_at file at)) next) entry left (wide (byte_at file at)) next
          (subst (λ (r : Reading Entry). Made r (entry_at file at)) is (tagged at left some)) (further next (omega (arith, on, some)))
      by (wrong place) is = tt

  agrees :
      (left : ℕ) (behind_wide : Bool) (at : ℕ) → 0 < at →
      Agree (places_by file left behind_wide at) (read_by (pool_format (length file) left behind_wide) file at)
  agrees zero behind_wide at some = agree_none behind_wide at
  agrees (suc left) true at some = agree_wide left at (agrees left false at some)
  agrees (suc left) false at some = agree_entry left at some (λ next there. agrees left (wide (byte_at file at)) next there)

  -- there are no more places than numbers
  places_few : (left : ℕ) (behind_wide : Bool) (at : ℕ) → length (places_by file left behind_wide at) ≤ left
  unfolding places_by
  places_few zero behind_wide at = omega arith
  places_few (suc left) true at = let few = places_few left false at in omega (arith, few)
  places_few (suc left) false at =
      by (run_of (read_by (tagged_format (length file) left) file at)) (λ next. places_few left (wide (byte_at file at)) next)
    where
      by :
          (r : Result ℕ ℕ) → ((next : ℕ) → length (places_by file left (wide (byte_at file at)) next) ≤ left) →
          length (place_then at r (λ next. places_by file left (wide (byte_at file at)) next)) ≤ suc left
      by (Ok next) few = let l = few next in omega (arith, l)
      by (Err place) few = omega arith

-- ---- by a table that has room for them

placed_at : (room : ℕ) (places : List ℕ) → length places ≤ room → (i : ℕ) → get_or (placed room places) i 0 ≡ get_or places i 0
unfolding placed
placed_at zero [] fits i = refl
placed_at zero (place ∷ places) fits i = absurd (omega (arith, fits))
placed_at (suc room) [] fits zero = refl
placed_at (suc room) [] fits (suc i) = placed_at room [] (omega arith) i
placed_at (suc room) (place ∷ places) fits zero = refl
placed_at (suc room) (place ∷ places) fits (suc i) = placed_at room places (omega (arith, fits)) i

-- number 0 needs no cell
looked_up :
    (room : ℕ) (places : List ℕ) → length places ≤ room - 1 → (i : ℕ) → get_or (placed room (0 ∷ places)) i 0 ≡ get_or (0 ∷ places) i 0
unfolding placed
looked_up zero [] fits zero = refl
looked_up zero [] fits (suc i) = refl
looked_up zero (place ∷ places) fits i = absurd (omega (arith, fits))
looked_up (suc room) places fits zero = refl
looked_up (suc room) places fits (suc i) = placed_at room places (omega (arith, fits)) i

pub table_serves : TableServes
unfolding places_in
table_serves file count room entries end fits is = λ index. ap (entry_at file) (looked_up room places few index) ∙ by index
  where
    places : List ℕ
    places = places_by file (count - 1) false 10

    few : length places ≤ room - 1
    few = omega (arith, places_few file (count - 1) false 10, fits)

    by : (i : ℕ) → entry_at file (get_or (0 ∷ places) i 0) ≡ get_or (Nothing ∷ entries) i Nothing
    by zero = no_entry file
    by (suc i) = subst (λ (r : Reading Pool). Agree file places r) is (agrees file (count - 1) false 10 (omega arith)) i
