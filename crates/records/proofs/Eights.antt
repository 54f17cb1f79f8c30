-- A search over the records of a case, so many at a time.
-- Assumes nothing.
use Rattle.std.specs.Prelude.{Result, Ok, Err, Option, Some, None}
use Prim.Native.Nat.{ℕ, zero, suc, ◌-◌, zero-le}
use native.Mathlib.Omega.{arith}
use mathlib.Core.Bool.{Bool, true, false}
use mathlib.Core.Path.{◌≡◌, refl, sym, ◌∙◌, ap}
use mathlib.Core.List.{List, [], ◌∷◌, ◌++◌}
use lib.ListN.{length, take, drop, get_or, take-append-drop}
use lib.Dec.{eqb, leb}
use borrow.Author.Tests.{le-ltb}
use Rattle.basics.specs.Choice.{pick, both}
use Rattle.tables.specs.LocalRecord.{record_at, records_in, record_within, then_record}
use Rattle.tables.specs.declared.RecordPlace.{RecordPlace}
use Rattle.search.specs.Search.{covers, first_match}
use Rattle.records.specs.Run.{viewed_all, or_else, blank, run_of}
use Rattle.records.specs.declared.LocalRecord.{LocalRecord}
use Rattle.records.proofs.Search.{match_append}
use Rattle.records.proofs.Within.{record-within}

-- ---- a run of a case's records, and those records

module _ (slot load : ℕ) where
  none_both : (x y : Bool) → both x (both y false) ≡ false
  none_both true true = refl
  none_both true false = refl
  none_both false y = refl

  -- a blank record's window holds no index
  blank_covers : covers 0 0 0 slot load ≡ false
  blank_covers = rw (le-ltb load 0 zero-le) (none_both (eqb 0 slot) (leb 0 load))

  blanks_match : (room : ℕ) → first_match (viewed_all (run_of room [])) slot load ≡ None
  unfolding run_of first_match
  blanks_match zero = refl
  blanks_match (suc room) = rw blank_covers (blanks_match room)

  -- the search over a run is that over the records that it has room for
  pub run_match :
      (room : ℕ) (records : List RecordPlace) → first_match (viewed_all (run_of room records)) slot load ≡ first_match
      (take room records) slot load
  unfolding run_of first_match
  run_match zero records = refl
  run_match (suc room) [] = rw blank_covers (blanks_match room)
  run_match (suc room) (r ∷ records) =
      ap (pick (covers r.start r.length r.slot slot load) (Some (r.name, r.next))) (run_match room records)

  -- what is found in a run is found in the records
  pub run_found :
      (room : ℕ) (records : List RecordPlace) (from to : ℕ) → first_match (viewed_all
      (run_of room records)) slot load ≡ Some (from, to) →
      Some (from, to) ≡ first_match records slot load
  run_found room records from to found =
      ap (λ (name : Option (ℕ × ℕ)). or_else name (first_match (drop room records) slot load)) (sym found ∙ run_match room records)
      ∙ sym (match_append slot load (take room records) (drop room records))
      ∙ ap (λ (l : List RecordPlace). first_match l slot load) (take-append-drop room records)

-- ---- where the next run begins

last_blank : (room : ℕ) (d : LocalRecord) → get_or (run_of (suc room) []) room d ≡ blank
unfolding run_of
last_blank zero d = refl
last_blank (suc room) d = last_blank room d

module _ (bytes : List ℕ) (d : LocalRecord) where
  -- the last record of a run of a case's records
  abbrev last_in : ℕ → List RecordPlace → LocalRecord
  last_in room records = get_or (run_of (suc room) records) room d

  abbrev pub last_of : ℕ → ℕ → ℕ → LocalRecord
  last_of room left at = get_or (run_of (suc room) (records_in bytes left at)) room d

  -- the records from one on
  abbrev listed : ℕ → Result RecordPlace ℕ → List RecordPlace
  listed left r = then_record r (λ place. []) (λ place. place ∷ records_in bytes left place.next)

  -- those that follow so many
  abbrev following : ℕ → ℕ → LocalRecord → List RecordPlace
  following left room last = records_in bytes (left - suc room) last.to

  abbrev Full : ℕ → ℕ → List RecordPlace → Type 0
  Full room left records =
      ((last_in room records).to ≡ 0 → ⊥) → records ≡ take (suc room) records ++ following left room (last_in room records)

  full_one : (left : ℕ) (r : Result RecordPlace ℕ) → Full 0 (suc left) (listed left r)
  unfolding run_of
  full_one left (Ok p) some = ap (λ (k : ℕ). p ∷ records_in bytes k p.next) less
    where
      less : left ≡ suc left - 1
      less = omega arith
  full_one left (Err place) some = absurd (some refl)

  full_more :
      (room left : ℕ) (r : Result RecordPlace ℕ) → ((next : ℕ) → Full room left (records_in bytes left next)) → Full (suc room) (suc left)
      (listed left r)
  unfolding run_of
  full_more room left (Ok p) rest some =
      ap (λ (l : List RecordPlace). p ∷ l) (rest p.next some)
      ∙ ap
      (λ (k : ℕ). p ∷ (take (suc room) (records_in bytes left p.next) ++ records_in bytes k (last_of room left p.next).to))
      less
    where
      less : left - suc room ≡ suc left - suc (suc room)
      less = omega arith
  full_more room left (Err place) rest some = absurd (some (ap (λ (r : LocalRecord). r.to) (last_blank room d)))

  -- a run whose last record is a case's: those that follow begin where it ends
  pub run_full : (room left at : ℕ) → Full room left (records_in bytes left at)
  unfolding records_in run_of
  run_full zero zero at some = absurd (some refl)
  run_full (suc room) zero at some = absurd (some (ap (λ (r : LocalRecord). r.to) (last_blank room d)))
  run_full zero (suc left) at some = full_one left (record_at bytes at) some
  run_full (suc room) (suc left) at some = full_more room left (record_at bytes at) (run_full room left) some

  abbrev Short : ℕ → List RecordPlace → Type 0
  Short room records = (last_in room records).to ≡ 0 → take (suc room) records ≡ records

  short_one : (left at : ℕ) (r : Result RecordPlace ℕ) → record_within (length bytes) at r → Short 0 (listed left r)
  unfolding run_of
  short_one left at (Ok p) within none = absurd (omega (arith, none, within.4, within.5))
  short_one left at (Err place) within none = refl

  short_more :
      (room left : ℕ) (r : Result RecordPlace ℕ) → ((next : ℕ) → Short room (records_in bytes left next)) → Short (suc room) (listed left r)
  unfolding run_of
  short_more room left (Ok p) rest none = ap (λ (l : List RecordPlace). p ∷ l) (rest p.next none)
  short_more room left (Err place) rest none = refl

  -- a run whose last record is blank: it has every record
  pub run_short : (room left at : ℕ) → Short room (records_in bytes left at)
  unfolding records_in run_of
  run_short room zero at none = refl
  run_short zero (suc left) at none = short_one left at (record_at bytes at) (record-within bytes at) none
  run_short (suc room) (suc left) at none = short_more room left (record_at bytes at) (run_short room left) none

  -- ---- what a run says of the whole search

  module _ (slot load room left at : ℕ) (run : List LocalRecord) (is : run ≡ run_of (suc room) (records_in bytes left at)) where
    searched : first_match (viewed_all run) slot load ≡ first_match (take (suc room) (records_in bytes left at)) slot load
    searched =
        ap (λ (l : List LocalRecord). first_match (viewed_all l) slot load) is ∙ run_match slot load (suc room)
        (records_in bytes left at)

    last_is : get_or run room d ≡ last_of room left at
    last_is = ap (λ (l : List LocalRecord). get_or l room d) is

    pub name_found :
        (from to : ℕ) → first_match (viewed_all run) slot load ≡ Some (from, to) →
        Some (from, to) ≡ first_match (records_in bytes left at) slot load
    name_found from to found =
        run_found slot load (suc room) (records_in bytes left at) from to
        (ap (λ (l : List LocalRecord). first_match (viewed_all l) slot load) (sym is) ∙ found)

    pub search_ends :
        (get_or run room d).to ≡ 0 → first_match (viewed_all run) slot load ≡ None →
        None ≡ first_match (records_in bytes left at) slot load
    search_ends none unnamed =
        sym unnamed ∙ searched
        ∙ ap (λ (l : List RecordPlace). first_match l slot load)
        (run_short room left at (ap (λ (r : LocalRecord). r.to) (sym last_is) ∙ none))

    pub search_goes_on :
        ((get_or run room d).to ≡ 0 → ⊥) → first_match (viewed_all run) slot load ≡ None →
        first_match (records_in bytes (left - suc room) (get_or run room d).to) slot load ≡ first_match
        (records_in bytes left at) slot load
    search_goes_on some unnamed =
        ap (λ (r : LocalRecord). first_match (records_in bytes (left - suc room) r.to) slot load) last_is
        ∙ ap (λ (name : Option (ℕ × ℕ)). or_else name (first_match (following left room (last_of room left at)) slot load))
        (sym unnamed ∙ searched)
        ∙ sym (match_append slot load (take (suc room) (records_in bytes left at)) (following left room (last_of room left at)))
        ∙ ap (λ (l : List RecordPlace). first_match l slot load)
        (sym (run_full room left at (λ none. some (ap (λ (r : LocalRecord). r.to) last_is ∙ none))))
