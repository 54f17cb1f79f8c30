-- One entry, and the pool number by number.
-- Assumes nothing.
use Rattle.std.specs.Prelude.{Result, Ok, Err}
use Prim.Native.Nat.{ℕ, zero, suc, ◌+◌, ◌≤◌, ◌<◌}
use native.Mathlib.Omega.{arith}
use mathlib.Core.Path.{◌≡◌, refl, ◌∙◌, ap}
use mathlib.Core.Bool.{Bool, true, false}
use mathlib.Core.List.{List, ◌∷◌}
use borrow.Author.Tests.{le-leb, lt-leb}
use Rattle.basics.specs.Bytes.{byte_at, u16_at}
use Rattle.basics.specs.Choice.{pick}
use Rattle.utf8.specs.Turning.{is_modified}
use Rattle.format.specs.Format.{Format, done, and_then, number_at, bytes_at, Reading, right, wrong, then_read, number_right, read_by}
use Rattle.format.specs.Items.{run_of}
use Rattle.format.proofs.Items.{two_bytes}
use Rattle.format.proofs.Reading.{gone_on, read_then}
use Rattle.classformat.specs.ClassFile.{wide, right_tag, entry_format, pool_format}
use Rattle.classformat.specs.Contents.{Pool}
use Rattle.classformat.specs.declared.Entry.{Entry}
use Rattle.classformat.specs.declared.Entry.TheVariants.{Nothing}
use Rattle.pool.specs.Pool.{tagged_format}

-- what follows a run, or its first wrong item
abbrev pub then_run : (Result ℕ ℕ) → (ℕ → Result ℕ ℕ) → Result ℕ ℕ
then_run (Ok next) following = following next
then_run (Err place) following = Err place

-- ---- a text

module _ (file : List ℕ) (limit at : ℕ) where
  pub cut_text : limit < at + 2 + u16_at file at → run_of (read_by (entry_format limit 1) file at) ≡ Err at
  unfolding read_by entry_format
  cut_text cut = rw (two_bytes file at, lt-leb (at + 2 + u16_at file at) limit cut)

  pub judged_text :
      (b : Bool) → at + 2 + u16_at file at ≤ limit → is_modified (bytes_at file (at + 2) (u16_at file at)) ≡ b →
      run_of (read_by (entry_format limit 1) file at) ≡ pick b (Ok (at + 2 + u16_at file at)) (Err at)
  unfolding read_by entry_format
  judged_text true fits is = rw (two_bytes file at, le-leb (at + 2 + u16_at file at) limit fits, is)
  judged_text false fits is = rw (two_bytes file at, le-leb (at + 2 + u16_at file at) limit fits, is)

-- ---- an entry

one_byte : (file : List ℕ) (at : ℕ) → number_at 1 file at ≡ byte_at file at
unfolding number_at
one_byte file at = omega arith

module _ (file : List ℕ) (limit at left : ℕ) where
  pub cut_tag : limit < at + 1 → read_by (tagged_format limit left) file at ≡ wrong at
  unfolding read_by tagged_format
  cut_tag cut = rw (lt-leb (at + 1) limit cut)

  pub bad_tag : at + 1 ≤ limit → right_tag left (byte_at file at) ≡ false → read_by (tagged_format limit left) file at ≡ wrong at
  unfolding read_by tagged_format
  bad_tag fits fails = rw (le-leb (at + 1) limit fits, one_byte file at, fails)

  pub good_tag :
      at + 1 ≤ limit → right_tag left (byte_at file at) ≡ true →
      read_by (tagged_format limit left) file at ≡ read_by (entry_format limit (byte_at file at)) file (at + 1)
  unfolding read_by tagged_format
  good_tag fits passes = rw (le-leb (at + 1) limit fits, one_byte file at, passes)

-- ---- the pool

module _ (file : List ℕ) (limit : ℕ) where
  -- the entries behind one that is read
  abbrev pub with_entry : ℕ → Bool → Entry → ℕ → Reading Pool
  with_entry left behind_wide entry next = read_by (and_then (pool_format limit left behind_wide) (λ entries. done (entry ∷ entries))) file next

  pub entry_more :
      (left : ℕ) (behind_wide : Bool) (entry : Entry) (next : ℕ) →
      with_entry left behind_wide entry next
      ≡ then_read (read_by (pool_format limit left behind_wide) file next) (λ entries end. right (entry ∷ entries) end)
  unfolding read_by
  entry_more left behind_wide entry next = read_then (λ entries. done (entry ∷ entries)) file (pool_format limit left behind_wide) next

  pub by_entry :
      (at left : ℕ) →
      read_by (pool_format limit (suc left) false) file at
      ≡ then_read (read_by (tagged_format limit left) file at) (with_entry left (wide (byte_at file at)))
  unfolding read_by pool_format tagged_format
  by_entry at left =
      let tag = number_at 1 file at in
      let rest : Entry → Format Pool = λ entry. and_then (pool_format limit left (wide tag)) (λ entries. done (entry ∷ entries)) in
      gone_on (number_right 1 limit (right_tag left) file at) at (at + 1) (λ next. read_by (entry_format limit tag) file next)
      (λ next. read_by (and_then (entry_format limit tag) rest) file next) (with_entry left (wide tag))
      (read_then rest file (entry_format limit tag) (at + 1))
      ∙ ap (λ (t : ℕ). then_read (read_by (tagged_format limit left) file at) (with_entry left (wide t))) (one_byte file at)

  pub behind-wide : (at left : ℕ) → read_by (pool_format limit (suc left) true) file at ≡ with_entry left false Nothing at
  unfolding pool_format
  behind-wide at left = refl

  -- ---- as far as a run tells of it

  run_more :
      (left : ℕ) (behind_wide : Bool) (entry : Entry) (next : ℕ) →
      run_of (with_entry left behind_wide entry next) ≡ run_of (read_by (pool_format limit left behind_wide) file next)
  run_more left behind_wide entry next = ap run_of (entry_more left behind_wide entry next) ∙ by (read_by (pool_format limit left behind_wide) file next)
    where
      by : (r : Reading Pool) → run_of (then_read r (λ entries end. right (entry ∷ entries) end)) ≡ run_of r
      by (right entries end) = refl
      by (wrong place) = refl

  pub entry_turn :
      (at left : ℕ) →
      run_of (read_by (pool_format limit (suc left) false) file at)
      ≡ then_run (run_of (read_by (tagged_format limit left) file at))
      (λ next. run_of (read_by (pool_format limit left (wide (byte_at file at))) file next))
  entry_turn at left = ap run_of (by_entry at left) ∙ by (read_by (tagged_format limit left) file at)
    where
      by :
          (r : Reading Entry) →
          run_of (then_read r (with_entry left (wide (byte_at file at))))
          ≡ then_run (run_of r) (λ next. run_of (read_by (pool_format limit left (wide (byte_at file at))) file next))
      by (right entry next) = run_more left (wide (byte_at file at)) entry next
      by (wrong place) = refl

  pub wide_turn :
      (at left : ℕ) → run_of (read_by (pool_format limit (suc left) true) file at) ≡ run_of (read_by (pool_format limit left false) file at)
  wide_turn at left = ap run_of (behind-wide at left) ∙ run_more left false Nothing at

  pub none_left : (at : ℕ) (behind_wide : Bool) → run_of (read_by (pool_format limit zero behind_wide) file at) ≡ Ok at
  unfolding read_by pool_format
  none_left at behind_wide = refl
