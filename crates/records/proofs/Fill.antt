-- A run filled from a case's bytes, one record after the other.
-- Assumes nothing.
use Rattle.std.specs.Prelude.{Result, Ok, Err}
use Prim.Native.Nat.{ℕ, zero, suc, ◌-◌, ◌<◌, ◌≤◌}
use native.Mathlib.Nat.{not-suc-le-zero, le_of_suc-le-suc}
use native.Mathlib.Omega.{arith}
use mathlib.Core.Path.{◌≡◌, refl, sym, ◌∙◌, ap}
use mathlib.Core.List.{List, [], ◌∷◌, ◌++◌, append-nil}
use lib.ListN.{length, take, set}
use lib.Seq.{take_all}
use Rattle.tables.specs.LocalRecord.{record_at, records_in, then_record}
use Rattle.tables.specs.declared.RecordPlace.{RecordPlace}
use Rattle.records.specs.Run.{no_more, read_to, next_of, read_next, run_of}
use Rattle.records.specs.declared.LocalRecord.{LocalRecord}
use Rattle.records.specs.declared.Reading.{Reading}

module _ (bytes : List ℕ) (at : ℕ) where
  -- the first record of a run, and the rest of the run
  by_record :
      (room left : ℕ) (r : Result RecordPlace ℕ) →
      (let next : Reading = then_record r (λ place. no_more) (λ place. read_to place left) in
      run_of (suc room) (then_record r (λ place. []) (λ place. place ∷ records_in bytes left place.next)) ≡
      next.local ∷ run_of room (records_in bytes next.left next.at))
  unfolding run_of records_in
  by_record room left (Ok place) = refl
  by_record room left (Err place) = refl

  pub run_next :
      (room left : ℕ) →
      run_of (suc room) (records_in bytes left at) ≡
      (next_of bytes at left).local ∷ run_of room (records_in bytes (next_of bytes at left).left (next_of bytes at left).at)
  unfolding run_of records_in next_of
  run_next room zero = refl
  run_next room (suc left) = by_record room left (record_at bytes at)

-- ---- a run that is filled up to a place

-- an element is laid after those before it
stepped :
    (ys rest : List LocalRecord) (i : ℕ) (y : LocalRecord) → i < length ys →
    take (suc i) (set ys i y) ++ rest ≡ take i ys ++ (y ∷ rest)
stepped [] rest i y l = absurd (not-suc-le-zero l)
stepped (x ∷ ys) rest zero y l = refl
stepped (x ∷ ys) rest (suc i) y l = ap (λ (zs : List LocalRecord). x ∷ zs) (stepped ys rest i y (le_of_suc-le-suc l))

module _ (bytes : List ℕ) (n : ℕ) where
  -- the run, where its first i records stand and the rest is yet to be read
  abbrev pub filled_to : ℕ → List LocalRecord → Reading → List LocalRecord
  filled_to i run reading = take i run ++ run_of (n - i) (records_in bytes reading.left reading.at)

  pub filled_none :
      (run : List LocalRecord) (reading : Reading) →
      filled_to 0 run reading ≡ run_of n (records_in bytes reading.left reading.at)
  filled_none run reading = ap (λ (k : ℕ). run_of k (records_in bytes reading.left reading.at)) all
    where
      all : n - 0 ≡ n
      all = omega arith

  pub filled_next :
      (i : ℕ) (run : List LocalRecord) (reading : Reading) → i < n → length run ≡ n →
      filled_to (suc i) (set run i (read_next bytes reading).local) (read_next bytes reading) ≡ filled_to i run reading
  filled_next i run reading l size =
      stepped run (run_of (n - suc i) (records_in bytes (read_next bytes reading).left (read_next bytes reading).at)) i
      (read_next bytes reading).local (omega (arith, l, size))
      ∙ ap (λ (zs : List LocalRecord). take i run ++ zs) (sym (run_next bytes reading.at (n - suc i) reading.left))
      ∙ ap (λ (k : ℕ). take i run ++ run_of k (records_in bytes reading.left reading.at)) one_more
    where
      one_more : suc (n - suc i) ≡ n - i
      one_more = omega (arith, l)

  pub filled_over :
      (i : ℕ) (run : List LocalRecord) (reading : Reading) → n ≤ i → length run ≡ n → filled_to i run reading ≡ run
  unfolding run_of
  filled_over i run reading over size =
      ap (λ (k : ℕ). take i run ++ run_of k (records_in bytes reading.left reading.at)) none
      ∙ append-nil (take i run) ∙ take_all i run (omega (arith, over, size))
    where
      none : n - i ≡ 0
      none = omega (arith, over)
