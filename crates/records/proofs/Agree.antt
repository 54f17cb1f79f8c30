-- The search over a lent run and the search over a case's bytes find the same name.
-- Assumes nothing.
use Rattle.std.specs.Prelude.{Result, Ok, Err}
use Prim.Native.Nat.{ℕ, zero, suc, ◌≤◌, zero-le}
use native.Mathlib.Nat.{le_trans}
use native.Mathlib.Omega.{arith}
use mathlib.Core.List.{List, [], ◌∷◌}
use mathlib.Core.Path.{◌∙◌, ap}
use lib.ListN.{length}
use lib.Seq.{take_all}
use Rattle.tables.specs.LocalRecord.{record_at, records_in, then_record}
use Rattle.tables.specs.declared.RecordPlace.{RecordPlace}
use Rattle.search.specs.Search.{first_match}
use Rattle.records.specs.Agree.{SearchesAgree}
use Rattle.records.proofs.Eights.{run_match}

module _ (bytes : List ℕ) where
  by_record :
      (count : ℕ) (r : Result RecordPlace ℕ) → ((next : ℕ) → length (records_in bytes count next) ≤ count) →
      length (then_record r (λ place. []) (λ place. place ∷ records_in bytes count place.next)) ≤ suc count
  by_record count (Ok p) rest = omega (arith, rest p.next)
  by_record count (Err place) rest = zero-le

  -- there are at most as many records as are asked for
  at_most : (count at : ℕ) → length (records_in bytes count at) ≤ count
  unfolding records_in
  at_most zero at = zero-le
  at_most (suc count) at = by_record count (record_at bytes at) (at_most count)

pub searches_agree : SearchesAgree
searches_agree bytes count at room slot load fits =
    run_match slot load room (records_in bytes count at)
    ∙ ap (λ (l : List RecordPlace). first_match l slot load)
    (take_all room (records_in bytes count at) (le_trans (at_most bytes count at) fits))
