-- The search over records, one record further; and the windows of records.
-- Assumes nothing.
use Rattle.std.specs.Prelude.{Result, Ok, Err, Option, Some, None}
use Prim.Native.Nat.{ℕ, suc, ◌+◌, ◌-◌, ◌≤◌}
use native.Mathlib.Omega.{arith}
use mathlib.Core.Path.{◌≡◌, refl, ◌∙◌, sym}
use mathlib.Core.Bool.{Bool, true, false}
use mathlib.Core.List.{List, [], ◌∷◌}
use lib.Dec.{ltb}
use borrow.Author.Tests.{lt-ltb, le-ltb, ltb-true, ltb-false}
use Rattle.basics.specs.Choice.{pick}
use Rattle.tables.specs.LocalRecord.{record_at, records_in, then_record}
use Rattle.tables.specs.declared.RecordPlace.{RecordPlace}
use Rattle.search.specs.Search.{covers, first_match}

-- one turn of the search
pub match_turn :
    (records : List ℕ) (slot load left rest at : ℕ) → left ≡ suc rest →
    first_match (records_in records left at) slot load
    ≡ then_record {A = Option (ℕ × ℕ)} (record_at records at) (λ wrong. None) (λ r.
    pick (covers r.start r.length r.slot slot load) (Some (r.name, r.next)) (first_match (records_in records rest r.next) slot load))
unfolding records_in first_match
match_turn records slot load left rest at e = rw e (by_record (record_at records at))
  where
    by_record :
        (r : Result RecordPlace ℕ) →
        first_match (then_record r (λ wrong. []) (λ place. place ∷ records_in records rest place.next)) slot load
        ≡ then_record {A = Option (ℕ × ℕ)} r (λ wrong. None) (λ r.
        pick (covers r.start r.length r.slot slot load) (Some (r.name, r.next)) (first_match (records_in records rest r.next) slot load))
    by_record (Ok r) = refl
    by_record (Err place) = refl

-- ---- windows

-- an index less the window's start is compared with its length, as the index is with its end
pub window_same : (start size load : ℕ) → start ≤ load → ltb (load - start) size ≡ ltb load (start + size)
window_same start size load from = by_ltb (ltb (load - start) size) refl
  where
    by_ltb : (t : Bool) → ltb (load - start) size ≡ t → ltb (load - start) size ≡ ltb load (start + size)
    by_ltb true e = e ∙ sym (lt-ltb load (start + size) (omega (arith, from, ltb-true (load - start) size e)))
    by_ltb false e = e ∙ sym (le-ltb load (start + size) (omega (arith, from, ltb-false (load - start) size e)))
