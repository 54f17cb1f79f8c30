-- One local record is enough: a local has the name of the first record that covers the load, or the name that it has without one.
-- Rests on: going from each record to the next lists the records of the run (crates/cases); a record that is read ends behind its name
-- (crates/records).
-- Assumes nothing.
use Rattle.std.specs.Prelude.{Result, Ok, Err}
use Prim.Native.Nat.{ℕ, zero, suc, ◌-◌}
use native.Mathlib.Omega.{arith}
use mathlib.Core.Path.{◌≡◌, refl, ◌∙◌, sym, ap}
use mathlib.Core.Bool.{Bool, true, false}
use mathlib.Core.List.{List, [], ◌∷◌}
use lib.ListN.{length}
use Rattle.basics.proofs.Choice.{chosen}
use Rattle.tables.specs.LocalRecord.{record_at, records_in, record_within, then_record}
use Rattle.tables.specs.declared.RecordPlace.{RecordPlace}
use Rattle.search.specs.Search.{covers, first_match}
use Rattle.locals.specs.Name.{unnamed, name_by, local_name}
use Rattle.cases.specs.LaidOut.{Local, records_bytes, RightLocals}
use Rattle.cases.specs.LaidOut as laid
use Rattle.cases.specs.Listed.{locals_at}
use Rattle.cases.proofs.Listed.{records_listed}
use Rattle.records.proofs.Within.{record-within}
use Rattle.single.specs.Single.{first, covers_load, covering, name_or, OneNames}
use Rattle.single.proofs.First.{at_most_one, first_alone}

-- ---- the name

-- the search over the places of records answers by the records that lie there
module _ (bytes signature : List ℕ) (instance : Bool) (slot load : ℕ) where
  abbrev Named : List RecordPlace → Type 0
  Named places =
      name_by (first_match places slot load) bytes signature instance slot
      ≡ name_or (covering slot load (locals_at bytes places)) (unnamed signature instance slot)

  by_place :
      (at : ℕ) (place : RecordPlace) (places : List RecordPlace) → record_within (length bytes) at (Ok place) → Named places →
      Named (place ∷ places)
  unfolding first_match first
  by_place at place places within rest = by_test (covers place.start place.length place.slot slot load) refl
    where
      by_test : (t : Bool) → covers place.start place.length place.slot slot load ≡ t → Named (place ∷ places)
      by_test true e =
          let size : place.next - place.name ≡ place.name_length = omega (arith, within.5) in
          rw (e, size)
      by_test false e = rw e rest

  by_record :
      (count at : ℕ) (r : Result RecordPlace ℕ) → record_within (length bytes) at r → ((next : ℕ) → Named (records_in bytes count next)) →
      Named (then_record r (λ place. []) (λ place. place ∷ records_in bytes count place.next))
  unfolding first_match first
  by_record count at (Ok place) within rest = by_place at place (records_in bytes count place.next) within (rest place.next)
  by_record count at (Err place) within rest = refl

  by_count : (count at : ℕ) → Named (records_in bytes count at)
  unfolding records_in first_match first
  by_count zero at = refl
  by_count (suc count) at = by_record count at (record_at bytes at) (record-within bytes at) (by_count count)

module _ (rs : List Local) (right : RightLocals rs) (signature : List ℕ) (instance : Bool) (slot load : ℕ) where
  named :
      local_name (records_bytes rs) (length rs) signature instance slot load
      ≡ name_or (covering slot load rs) (unnamed signature instance slot)
  unfolding local_name
  named =
      by_count (records_bytes rs) signature instance slot load (length rs) 0
      ∙ ap (λ (l : List Local). name_or (covering slot load l) (unnamed signature instance slot)) (records_listed rs right)

-- ---- the one record

stays_right : (slot load : ℕ) (rs : List Local) → RightLocals rs → RightLocals (covering slot load rs)
unfolding first
stays_right slot load [] right = right
stays_right slot load (r ∷ rs) (laid.RightLocals.more right rest) =
    chosen RightLocals (covers_load slot load r) (r ∷ []) (covering slot load rs)
    (laid.RightLocals.more right laid.RightLocals.none) (stays_right slot load rs rest)

pub one_names : OneNames
one_names =
    record {
      single = λ slot load. at_most_one (covers_load slot load);
      right = stays_right;
      named = named;
      name =
          λ rs right signature instance slot load.
          named (covering slot load rs) (stays_right slot load rs right) signature instance slot load
          ∙ ap (λ (l : List Local). name_or l (unnamed signature instance slot)) (first_alone (covers_load slot load) rs)
          ∙ sym (named rs right signature instance slot load);
    }
