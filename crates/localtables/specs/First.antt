-- The first local record that matches, declared: it matches, and none before it does.
-- Assumes nothing.
use Rattle.std.specs.Prelude.{ℕ, true, false, List, [], ◌∷◌, ◌++◌, ◌≡◌, Option, Some, None}
use Rattle.classformat.specs.Contents.{Local}
use Rattle.search.specs.Search.{covers}
use Rattle.localtables.specs.Locals.{first_local}
use Rattle.localtables.specs.declared.LocalFound.{LocalFound}

abbrev pub NoneCovers : ℕ → ℕ → List Local → Type 0
NoneCovers slot load [] = Unit
NoneCovers slot load (l ∷ ls) = (covers l.start l.size l.slot slot load ≡ false) × NoneCovers slot load ls

-- a record with none that matches before it
pub record FirstLocal (slot load : ℕ) (locals : List Local) (start size name : ℕ) : Type 0 where
  pub before : List Local
  pub first : Local
  pub after : List Local
  pub order : locals ≡ before ++ (first ∷ after)
  pub none : NoneCovers slot load before
  pub matches : covers first.start first.size first.slot slot load ≡ true
  pub is : (start ≡ first.start) × (size ≡ first.size) × (name ≡ first.name)

-- what an answer means
abbrev pub Means : ℕ → ℕ → List Local → Option LocalFound → Type 0
Means slot load locals (Some found) = FirstLocal slot load locals found.start found.size found.name
Means slot load locals None = NoneCovers slot load locals

-- the answer is the first match
abbrev pub FirstLocalDeclared : Type 0
FirstLocalDeclared = (slot load : ℕ) (locals : List Local) → Means slot load locals (first_local locals slot load)
