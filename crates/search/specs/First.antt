-- The first record that matches, declared: it matches, and none before it does.
-- Assumes nothing.
use Rattle.std.specs.Prelude.{ℕ, ◌≡◌, List, [], ◌∷◌, ◌++◌, T, Option, Some, None}
use Rattle.tables.specs.declared.RecordPlace.{RecordPlace}
use Rattle.search.specs.Search.{covers, first_match}

-- the record is of that slot, and its window holds the load's index
abbrev pub Matches : ℕ → ℕ → RecordPlace → Type 0
Matches slot load r = T (covers r.start r.length r.slot slot load)

abbrev pub NoneMatches : ℕ → ℕ → List RecordPlace → Type 0
NoneMatches slot load [] = Unit
NoneMatches slot load (r ∷ rs) = (Matches slot load r → ⊥) × NoneMatches slot load rs

-- a record with none that matches before it
pub record FirstOf (slot load : ℕ) (records : List RecordPlace) (from to : ℕ) : Type 0 where
  pub before : List RecordPlace
  pub first : RecordPlace
  pub after : List RecordPlace
  pub order : records ≡ before ++ (first ∷ after)
  pub none : NoneMatches slot load before
  pub matches : Matches slot load first
  pub name : (from ≡ first.name) × (to ≡ first.next)

-- what an answer of the search means
abbrev pub Means : ℕ → ℕ → List RecordPlace → Option (ℕ × ℕ) → Type 0
Means slot load records (Some (from, to)) = FirstOf slot load records from to
Means slot load records None = NoneMatches slot load records

-- the search answers the first match
abbrev pub FirstMatchDeclared : Type 0
FirstMatchDeclared = (records : List RecordPlace) (slot load : ℕ) → Means slot load records (first_match records slot load)
