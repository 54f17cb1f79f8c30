-- The table while it is filled: what it becomes by the places that are left is what it becomes by all of them.
-- Assumes nothing.
use Rattle.std.specs.Prelude.{Result, Ok, Err}
use Prim.Native.Nat.{ℕ, zero, suc, ◌+◌, ◌-◌, ◌≤◌, ◌<◌}
use native.Mathlib.Omega.{arith}
use mathlib.Core.Path.{◌≡◌, refl, ◌∙◌, sym, ap}
use mathlib.Core.Bool.{Bool, true, false}
use mathlib.Core.List.{List, [], ◌∷◌}
use lib.ListN.{length, get_or, set, replicate, length-set, length-replicate}
use lib.Seq.{get_or-set_other, set-get_or}
use Rattle.basics.specs.Bytes.{byte_at}
use Rattle.format.specs.Format.{read_by}
use Rattle.format.specs.Items.{run_of}
use Rattle.classformat.specs.ClassFile.{wide, pool_format}
use Rattle.pool.specs.Pool.{tagged_format, place_then, places_by, places_in, placed}
use Rattle.pool.proofs.Entries.{then_run, entry_turn, wide_turn, none_left}

-- ---- places written into a table, from a cell on

abbrev written : List ℕ → ℕ → List ℕ → List ℕ
written table number [] = table
written table number (place ∷ places) = written (set table number place) (suc number) places

written_nowhere : (number : ℕ) (places : List ℕ) → written [] number places ≡ []
written_nowhere number [] = refl
written_nowhere number (place ∷ places) = written_nowhere (suc number) places

written_behind :
    (cell : ℕ) (table : List ℕ) (number : ℕ) (places : List ℕ) →
    written (cell ∷ table) (suc number) places ≡ cell ∷ written table number places
written_behind cell table number [] = refl
written_behind cell table number (place ∷ places) = written_behind cell (set table number place) (suc number) places

-- into a table of zeros
written_zeros : (room : ℕ) (places : List ℕ) → written (replicate room 0) 0 places ≡ placed room places
unfolding placed
written_zeros zero places = written_nowhere 0 places
written_zeros (suc room) [] = ap (λ (l : List ℕ). 0 ∷ l) (written_zeros room [])
written_zeros (suc room) (place ∷ places) =
    written_behind place (replicate room 0) 0 places ∙ ap (λ (l : List ℕ). place ∷ l) (written_zeros room places)

-- number 0 keeps its zero
written_first : (room : ℕ) (places : List ℕ) → written (replicate room 0) 1 places ≡ placed room (0 ∷ places)
unfolding placed
written_first zero places = written_nowhere 1 places
written_first (suc room) places = written_behind 0 (replicate room 0) 0 places ∙ ap (λ (l : List ℕ). 0 ∷ l) (written_zeros room places)

zeros : (room i : ℕ) → get_or (replicate {A = ℕ} room 0) i 0 ≡ 0
zeros zero i = refl
zeros (suc room) zero = refl
zeros (suc room) (suc i) = zeros room i

-- ---- a pool with so many numbers, its table of so many cells, and where the reader has come to

module _ (file : List ℕ) (count room : ℕ) where
  pub record Filling (table : List ℕ) (at number left : ℕ) (behind_wide : Bool) : Type 0 where
    pub answer :
        run_of (read_by (pool_format (length file) (count - 1) false) file 10)
        ≡ run_of (read_by (pool_format (length file) left behind_wide) file at)
    pub keeps : written table number (places_by file left behind_wide at) ≡ placed room (places_in file count)
    pub clean : (i : ℕ) → number ≤ i → get_or table i 0 ≡ 0
    pub long : length table ≡ room

  pub starts : (table : List ℕ) → table ≡ replicate room 0 → Filling table 10 1 (count - 1) false
  unfolding places_in
  starts table is =
      record {
        answer = refl;
        keeps = rw is (written_first room (places_by file (count - 1) false 10));
        clean = λ i from. rw is (zeros room i);
        long = rw is (length-replicate {A = ℕ} room 0);
      }

  -- a number is taken
  pub taken :
      (table : List ℕ) (at number : ℕ) (behind_wide is : Bool) → behind_wide ≡ is → number < count →
      Filling table at number (count - number) behind_wide → Filling table at number (suc (count - number - 1)) is
  taken table at number behind_wide is same some so =
      let one : suc (count - number - 1) ≡ count - number = omega arith in
      rw (one, ← same) so

  -- and the reader goes on to the next
  pub goes_on :
      (table table' : List ℕ) (at at' number : ℕ) (behind_wide behind_wide' : Bool) → table' ≡ table → at' ≡ at → behind_wide' ≡ behind_wide →
      Filling table at (suc number) (count - number - 1) behind_wide →
      Filling table' at' (number + 1) (count - (number + 1)) behind_wide'
  goes_on table table' at at' number behind_wide behind_wide' tables places flags so =
      let one : number + 1 ≡ suc number = omega arith in
      let less : count - suc number ≡ count - number - 1 = omega arith in
      rw (tables, places, flags, one, less) so

  module _ (table : List ℕ) (at number left : ℕ) where
    places_more :
        (next : ℕ) → run_of (read_by (tagged_format (length file) left) file at) ≡ Ok next →
        places_by file (suc left) false at ≡ at ∷ places_by file left (wide (byte_at file at)) next
    unfolding places_by
    places_more next is = ap (λ (r : Result ℕ ℕ). place_then at r (λ next. places_by file left (wide (byte_at file at)) next)) is

    places_end :
        (place : ℕ) → run_of (read_by (tagged_format (length file) left) file at) ≡ Err place →
        places_by file (suc left) false at ≡ []
    unfolding places_by
    places_end place is = ap (λ (r : Result ℕ ℕ). place_then at r (λ next. places_by file left (wide (byte_at file at)) next)) is

    -- an entry is read
    pub reads_entry :
        (next : ℕ) → run_of (read_by (tagged_format (length file) left) file at) ≡ Ok next → Filling table at number (suc left) false →
        Filling (set table number at) next (suc number) left (wide (byte_at file at))
    reads_entry next is so =
        record {
          answer =
              so.answer ∙ entry_turn file (length file) at left
              ∙ ap (λ (r : Result ℕ ℕ). then_run r (λ n. run_of (read_by (pool_format (length file) left (wide (byte_at file at))) file n))) is;
          keeps = ap (λ (places : List ℕ). written table number places) (sym (places_more next is)) ∙ so.keeps;
          clean = λ i from. get_or-set_other table number i at 0 (λ e. omega (arith, e, from)) ∙ so.clean i (omega (arith, from));
          long = length-set table number at ∙ so.long;
        }

    -- the number behind a long or a double
    pub passes_number : Filling table at number (suc left) true → Filling table at (suc number) left false
    unfolding places_by
    passes_number so =
        record {
          answer = so.answer ∙ wide_turn file (length file) at left;
          keeps =
              ap (λ (t : List ℕ). written t (suc number) (places_by file left false at))
              (sym (set-get_or table number 0) ∙ ap (λ (v : ℕ). set table number v) (so.clean number (omega arith)))
              ∙ so.keeps;
          clean = λ i from. so.clean i (omega (arith, from));
          long = so.long;
        }

    -- an entry is wrong
    pub stops :
        (place : ℕ) → run_of (read_by (tagged_format (length file) left) file at) ≡ Err place → Filling table at number (suc left) false →
        (Err place ≡ run_of (read_by (pool_format (length file) (count - 1) false) file 10)) × (table ≡ placed room (places_in file count))
    stops place is so = (
      sym (so.answer ∙ entry_turn file (length file) at left
          ∙ ap (λ (r : Result ℕ ℕ). then_run r (λ n. run_of (read_by (pool_format (length file) left (wide (byte_at file at))) file n))) is),
      ap (λ (places : List ℕ). written table number places) (sym (places_end place is)) ∙ so.keeps,
    )

  -- no number is left
  pub ends :
      (table : List ℕ) (at number : ℕ) (behind_wide : Bool) → Filling table at number zero behind_wide →
      (Ok at ≡ run_of (read_by (pool_format (length file) (count - 1) false) file 10)) × (table ≡ placed room (places_in file count))
  unfolding places_by
  ends table at number behind_wide so = (sym (so.answer ∙ none_left file (length file) at behind_wide), so.keeps)
