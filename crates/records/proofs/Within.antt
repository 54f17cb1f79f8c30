-- A record that can be read lies in the bytes, and so does a name that is found.
-- Assumes nothing.
use Rattle.std.specs.Prelude.{Option, Some, None, Result, Ok, Err}
use Prim.Native.Nat.{ℕ, zero, suc}
use native.Mathlib.Omega.{arith}
use mathlib.Core.Bool.{Bool, true, false}
use mathlib.Core.List.{List, [], ◌∷◌}
use mathlib.Core.Path.{◌≡◌, refl, sym, subst}
use lib.ListN.{length}
use Rattle.basics.specs.Choice.{pick}
use Rattle.number.specs.Number.{greatest, number_at, number_within, then_number}
use Rattle.items.specs.Text.{text_at, text_within, then_text}
use Rattle.number.proofs.Laws.{number-within}
use Rattle.items.proofs.Laws.{text-within}
use Rattle.tables.specs.LocalRecord.{record_at, records_in, record_within, then_record}
use Rattle.tables.specs.declared.RecordPlace.{RecordPlace}
use Rattle.search.specs.Search.{covers, first_match, name_inside}

module _ (bytes : List ℕ) (first : ℕ) where
  abbrev Within : Result RecordPlace ℕ → Type 0
  Within r = record_within (length bytes) first r

  by_number :
      (at : ℕ) (x : Option (ℕ × ℕ)) (wrong : Result RecordPlace ℕ) (following : ℕ → ℕ → Result RecordPlace ℕ) → number_within greatest (length bytes) at x →
      Within wrong → ((v n : ℕ) → number_within greatest (length bytes) at (Some (v, n)) → Within (following v n)) →
      Within (then_number x wrong following)
  by_number at (Some (v, n)) wrong following within p go = go v n within
  by_number at None wrong following within p go = p

  by_text :
      (at : ℕ) (x : Option (ℕ × ℕ)) (wrong : Result RecordPlace ℕ) (following : ℕ → ℕ → Result RecordPlace ℕ) → text_within (length bytes) at x →
      Within wrong → ((start n : ℕ) → text_within (length bytes) at (Some (start, n)) → Within (following start n)) →
      Within (then_text x wrong following)
  by_text at (Some (start, n)) wrong following within p go = go start n within
  by_text at None wrong following within p go = p

  pub record-within : Within (record_at bytes first)
  unfolding record_at
  record-within =
      by_number first (number_at greatest bytes first) _ _ (number-within greatest bytes first) tt (λ start length_at i.
      by_number length_at (number_at greatest bytes length_at) _ _ (number-within greatest bytes length_at) tt (λ size slot_at j.
      by_number slot_at (number_at greatest bytes slot_at) _ _ (number-within greatest bytes slot_at) tt (λ slot name_at k.
      by_text name_at (text_at bytes name_at) _ _ (text-within bytes name_at) tt (λ name n l.
      (i.0, j.0, k.0, l.0, omega (arith, i.1, j.1, k.1, l.1), refl, l.2)))))

module _ (bytes : List ℕ) (slot load : ℕ) where
  by_test :
      (t : Bool) (size from to : ℕ) (rest : Option (ℕ × ℕ)) → name_inside size (Some (from, to)) → name_inside size rest →
      name_inside size (pick t (Some (from, to)) rest)
  by_test true size from to rest one more = one
  by_test false size from to rest one more = more

  by_record :
      (count at : ℕ) (r : Result RecordPlace ℕ) → record_within (length bytes) at r →
      ((next : ℕ) → name_inside (length bytes) (first_match (records_in bytes count next) slot load)) →
      name_inside (length bytes)
      (first_match (then_record r (λ place. []) (λ place. place ∷ records_in bytes count place.next)) slot load)
  unfolding first_match
  by_record count at (Err place) within rest = tt
  by_record count at (Ok p) within rest =
      by_test (covers p.start p.length p.slot slot load) (length bytes) p.name p.next
      (first_match (records_in bytes count p.next) slot load) (omega (arith, within.5), within.6) (rest p.next)

  -- a name that is found lies in the bytes
  pub found-inside : (count at : ℕ) → name_inside (length bytes) (first_match (records_in bytes count at) slot load)
  unfolding first_match records_in
  found-inside zero at = tt
  found-inside (suc count) at = by_record count at (record_at bytes at) (record-within bytes at) (found-inside count)

  -- so the search over a case's bytes answers a name in them
  pub answered :
      (count : ℕ) (r : Option (ℕ × ℕ)) → r ≡ first_match (records_in bytes count 0) slot load →
      (r ≡ first_match (records_in bytes count 0) slot load) × name_inside (length bytes) r
  answered count r e = (e, subst (name_inside (length bytes)) (sym e) (found-inside count 0))
