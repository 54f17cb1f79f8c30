-- The search over a run, part by part.
-- Assumes nothing.
use Rattle.std.specs.Prelude.{Option, Some, None}
use Prim.Native.Nat.{ℕ, zero, suc, ◌<◌, ◌≤◌}
use native.Mathlib.Nat.{not-suc-le-zero, le_of_suc-le-suc}
use mathlib.Core.Path.{◌≡◌, refl, sym, ◌∙◌, ap}
use mathlib.Core.Bool.{Bool, true, false}
use mathlib.Core.List.{List, [], ◌∷◌, ◌++◌}
use lib.ListN.{length, get_or, drop, drop_of_length-le}
use Rattle.basics.specs.Choice.{pick}
use Rattle.tables.specs.declared.RecordPlace.{RecordPlace}
use Rattle.search.specs.Search.{covers, first_match}
use Rattle.records.specs.Run.{viewed, viewed_all, or_else, blank}
use Rattle.records.specs.declared.LocalRecord.{LocalRecord}

-- ---- names that are found

pub or_else_assoc : (a b c : Option (ℕ × ℕ)) → or_else (or_else a b) c ≡ or_else a (or_else b c)
or_else_assoc (Some (from, to)) b c = refl
or_else_assoc None b c = refl

pub or_else_none : (a : Option (ℕ × ℕ)) → or_else a None ≡ a
or_else_none (Some (from, to)) = refl
or_else_none None = refl

-- ---- lists of records

-- a test on the first record
by_test :
    (t : Bool) (from to : ℕ) (rest all more : Option (ℕ × ℕ)) → all ≡ or_else rest more →
    pick t (Some (from, to)) all ≡ or_else (pick t (Some (from, to)) rest) more
by_test true from to rest all more e = refl
by_test false from to rest all more e = e

module _ (slot load : ℕ) where
  -- what is found in two lists one after the other
  pub match_append :
      (xs ys : List RecordPlace) → first_match (xs ++ ys) slot load ≡ or_else (first_match xs slot load) (first_match ys slot load)
  unfolding first_match
  match_append [] ys = refl
  match_append (x ∷ xs) ys =
      by_test (covers x.start x.length x.slot slot load) x.name x.next (first_match xs slot load)
      (first_match (xs ++ ys) slot load) (first_match ys slot load) (match_append xs ys)

  -- a record by itself, and those after it
  pub match_step :
      (found : Option (ℕ × ℕ)) (x : RecordPlace) (xs : List RecordPlace) →
      or_else (or_else found (first_match (x ∷ []) slot load)) (first_match xs slot load) ≡
      or_else found (first_match (x ∷ xs) slot load)
  match_step found x xs =
      or_else_assoc found (first_match (x ∷ []) slot load) (first_match xs slot load)
      ∙ ap (or_else found) (sym (match_append (x ∷ []) xs))

-- ---- a run, from a place on

pub from_place : (run : List LocalRecord) (i : ℕ) → i < length run → drop i run ≡ get_or run i blank ∷ drop (suc i) run
from_place [] i l = absurd (not-suc-le-zero l)
from_place (r ∷ rs) zero l = refl
from_place (r ∷ rs) (suc i) l = from_place rs i (le_of_suc-le-suc l)

module _ (run : List LocalRecord) (slot load i : ℕ) where
  -- what is found from place i on, where something is found already
  abbrev pub found_from : (Option (ℕ × ℕ)) → Option (ℕ × ℕ)
  found_from found = or_else found (first_match (viewed_all (drop i run)) slot load)

  pub found_over : (found : Option (ℕ × ℕ)) → length run ≤ i → found_from found ≡ found
  unfolding first_match
  found_over found over = rw (drop_of_length-le run over) (or_else_none found)

pub found_next :
    (run : List LocalRecord) (slot load i : ℕ) (found : Option (ℕ × ℕ)) → i < length run →
    found_from run slot load (suc i) (or_else found (first_match (viewed (get_or run i blank) ∷ []) slot load)) ≡
    found_from run slot load i found
found_next run slot load i found l =
    match_step slot load found (viewed (get_or run i blank)) (viewed_all (drop (suc i) run))
    ∙ ap (λ (rest : List LocalRecord). or_else found (first_match (viewed_all rest) slot load)) (sym (from_place run i l))
