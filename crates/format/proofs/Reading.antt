-- Reading by a format answers the first wrong item as it is declared, or what comes of items that are all right; and a format behind
-- another is read where that one ended.
-- Assumes nothing.
use Prim.Native.Nat.{ℕ, ◌+◌, ◌≤◌}
use native.Mathlib.Omega.{arith}
use mathlib.Core.Path.{◌≡◌, refl, ◌∙◌, subst}
use mathlib.Core.Bool.{Bool, true, false}
use mathlib.Core.List.{List}
use lib.Dec.{leb}
use borrow.Author.Tests.{le-leb, lt-leb, leb-true, leb-false}
use Rattle.basics.specs.Choice.{both}
use Rattle.format.specs.Format.{Format, number, text, window, full, here, done, and_then, number_at, bytes_at, Reading, right, wrong, then_read, go_on, number_right, window_right, text_right, read_by}
use Rattle.format.specs.FirstWrong.{Reached, start, after_number, after_text, after_length, after_all, told, Breach, cut_number, bad_number, cut_text, bad_text, cut_window, excess, FirstWrong, ReadingDeclared}

-- ---- one format after the other

pub gone_on :
    {A B : Type 0} (t : Bool) (at next : ℕ) (one : ℕ → Reading A) (both : ℕ → Reading B) (rest : A → ℕ → Reading B) →
    both next ≡ then_read (one next) rest → go_on t at next both ≡ then_read (go_on t at next one) rest
gone_on true at next one both rest e = e
gone_on false at next one both rest e = refl

module _ {A B : Type 0} (rest : A → Format B) (file : List ℕ) where
  abbrev onward : A → ℕ → Reading B
  onward a next = read_by (rest a) file next

  pub read_then : (format : Format A) (at : ℕ) → read_by (and_then format rest) file at ≡ then_read (read_by format file at) onward
  unfolding read_by and_then
  read_then (number width limit ok following) at =
      let v = number_at width file at in
      gone_on (number_right width limit ok file at) at (at + width) (λ next. read_by (following v) file next)
      (λ next. read_by (and_then (following v) rest) file next) onward (read_then (following v) (at + width))
  read_then (text width limit ok following) at =
      let size = number_at width file at in
      gone_on (text_right width limit ok file at) at (at + width + size) (λ next. read_by (following (at + width) size) file next)
      (λ next. read_by (and_then (following (at + width) size) rest) file next) onward
      (read_then (following (at + width) size) (at + width + size))
  read_then (window width limit following) at =
      let stop = at + width + number_at width file at in
      gone_on (window_right width limit file at) at (at + width) (λ next. read_by (following stop) file next)
      (λ next. read_by (and_then (following stop) rest) file next) onward (read_then (following stop) (at + width))
  read_then (full limit following) at =
      gone_on (leb limit at) at at (λ next. read_by following file next) (λ next. read_by (and_then following rest) file next) onward
      (read_then following at)
  read_then (here following) at = read_then (following at) at
  read_then (done a) at = refl

-- ---- what is read is as declared

module _ {A : Type 0} (file : List ℕ) (from : ℕ) (format : Format A) where
  abbrev Declares : Reading A → Type 0
  Declares (right a end) = Reached file from format (done a) end
  Declares (wrong offset) = FirstWrong file from format offset

  -- an item that has to pass two tests
  by_tests :
      (due : Format A) (at next : ℕ) → Reached file from format due at → (t s : Bool) → (t ≡ true → s ≡ false → Breach file from format due at) →
      (t ≡ false → Breach file from format due at) → (read : ℕ → Reading A) → (t ≡ true → s ≡ true → Declares (read next)) →
      Declares (go_on (both t s) at next read)
  by_tests due at next reached true true bad cut read onward = onward refl refl
  by_tests due at next reached true false bad cut read onward = record { due = due; reached = reached; breach = bad refl refl }
  by_tests due at next reached false s bad cut read onward = record { due = due; reached = reached; breach = cut refl }

  by_test :
      (due : Format A) (at next : ℕ) → Reached file from format due at → (t : Bool) → (t ≡ false → Breach file from format due at) →
      (read : ℕ → Reading A) → (t ≡ true → Declares (read next)) → Declares (go_on t at next read)
  by_test due at next reached true cut read onward = onward refl
  by_test due at next reached false cut read onward = record { due = due; reached = reached; breach = cut refl }

  declares : (due : Format A) (at : ℕ) → Reached file from format due at → Declares (read_by due file at)
  unfolding read_by
  declares (number width limit ok following) at reached =
      let v = number_at width file at in
      by_tests (number width limit ok following) at (at + width) reached (leb (at + width) limit) (ok v)
      (λ fits fails. bad_number (leb-true (at + width) limit fits) fails) (λ cut. cut_number (leb-false (at + width) limit cut))
      (λ next. read_by (following v) file next)
      (λ fits passes. declares (following v) (at + width) (after_number reached (leb-true (at + width) limit fits) passes))
  declares (text width limit ok following) at reached =
      let size = number_at width file at in
      by_tests (text width limit ok following) at (at + width + size) reached (window_right width limit file at)
      (ok size (bytes_at file (at + width) size)) (λ fits fails. bad_text (leb-true (at + width + size) limit fits) fails)
      (λ cut. cut_text (leb-false (at + width + size) limit cut)) (λ next. read_by (following (at + width) size) file next)
      (λ fits passes. declares (following (at + width) size) (at + width + size) (after_text reached (leb-true (at + width + size) limit fits) passes))
  declares (window width limit following) at reached =
      let stop = at + width + number_at width file at in
      by_test (window width limit following) at (at + width) reached (window_right width limit file at)
      (λ cut. cut_window (leb-false stop limit cut)) (λ next. read_by (following stop) file next)
      (λ fits. declares (following stop) (at + width) (after_length reached (leb-true stop limit fits)))
  declares (full limit following) at reached =
      by_test (full limit following) at at reached (leb limit at) (λ more. excess (leb-false limit at more)) (λ next. read_by following file next)
      (λ all. declares following at (after_all reached (leb-true limit at all)))
  declares (here following) at reached = declares (following at) at (told reached)
  declares (done a) at reached = reached

  -- from each place that is reached the format answers what it answers from the start
  along : {due : Format A} {at : ℕ} → Reached file from format due at → read_by format file from ≡ read_by due file at
  unfolding read_by
  along start = refl
  along (after_number {width} {limit} {at} {ok} {following} earlier fits passes) =
      along earlier ∙ rw (le-leb (at + width) limit fits, passes)
  along (after_text {width} {limit} {at} {ok} {following} earlier fits passes) =
      along earlier ∙ rw (le-leb (at + width + number_at width file at) limit fits, passes)
  along (after_length {width} {limit} {at} {following} earlier fits) =
      along earlier ∙ rw (le-leb (at + width + number_at width file at) limit fits)
  along (after_all {limit} {at} {following} earlier all) = along earlier ∙ rw (le-leb limit at all)
  along (told {at} {following} earlier) = along earlier

  breached : {due : Format A} {at : ℕ} → Breach file from format due at → read_by due file at ≡ wrong at
  unfolding read_by
  breached (cut_number {width} {limit} {at} {ok} {following} cut) = rw (lt-leb (at + width) limit cut)
  breached (bad_number {width} {limit} {at} {ok} {following} fits fails) = rw (le-leb (at + width) limit fits, fails)
  breached (cut_text {width} {limit} {at} {ok} {following} cut) = rw (lt-leb (at + width + number_at width file at) limit cut)
  breached (bad_text {width} {limit} {at} {ok} {following} fits fails) = rw (le-leb (at + width + number_at width file at) limit fits, fails)
  breached (cut_window {width} {limit} {at} {following} cut) = rw (lt-leb (at + width + number_at width file at) limit cut)
  breached (excess {limit} {at} {following} more) = rw (lt-leb limit at more)

pub reading_declared : ReadingDeclared
unfolding read_by
reading_declared =
    record {
      means = λ {A} format file from offset e.
          subst (λ (r : Reading A). Declares file from format r) e (declares file from format format from start);
      only = λ {A} format file from offset first. along file from format first.reached ∙ breached file from format first.breach;
      accepts = λ {A} format file from a end e.
          subst (λ (r : Reading A). Declares file from format r) e (declares file from format format from start);
      accepted = λ {A} format file from a end all. along file from format all;
      joins = λ {A} {B} format rest file at. read_then rest file format at;
    }

-- ---- reading goes on

module _ {A : Type 0} (format : Format A) (file : List ℕ) (from : ℕ) where
  reached_on : {due : Format A} {at : ℕ} → Reached file from format due at → from ≤ at
  reached_on start = omega arith
  reached_on (after_number {width} {limit} {at} {ok} {following} earlier fits passes) = omega (arith, reached_on earlier)
  reached_on (after_text {width} {limit} {at} {ok} {following} earlier fits passes) = omega (arith, reached_on earlier)
  reached_on (after_length {width} {limit} {at} {following} earlier fits) = omega (arith, reached_on earlier)
  reached_on (after_all earlier all) = reached_on earlier
  reached_on (told earlier) = reached_on earlier

  -- what is read ends at or after the place where it starts
  pub reads_on : (a : A) (end : ℕ) → read_by format file from ≡ right a end → from ≤ end
  reads_on a end is = reached_on (reading_declared.accepts format file from a end is)
