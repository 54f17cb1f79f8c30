-- What the strict readers answer and write (document 01, "Descriptors").
-- Assumes nothing.
use Rattle.std.specs.Prelude.{ℕ, ◌*◌, List, [], ◌∷◌, ◌++◌, ltb, length, Ok, Err}
use Rattle.basics.specs.Choice.{pick}
use Rattle.basics.specs.Parts.{overlaid}
use Rattle.refusal.specs.declared.Refusal.TheVariants.{NoRoom}
use Rattle.jtype.specs.declared.TypeRecord.{TypeRecord}
use Rattle.judging.specs.Judged.{Answer}
use Rattle.judging.specs.Reading.{Reading, types, refused}

-- "The strict reader writes four numbers a type, in order, the return last .. base letter, dimensions, name start in the
-- descriptor, name length"
abbrev pub four : TypeRecord → List ℕ
four t = t.letter ∷ t.dimensions ∷ t.start ∷ t.size ∷ []

unfoldable pub numbers_of : List TypeRecord → List ℕ
numbers_of [] = []
numbers_of (t ∷ ts) = four t ++ numbers_of ts

-- "answers 0 with the count of types; 14 (added) if they don't fit, after 1 to 13"
unfoldable pub answer : Reading → ℕ → Answer
answer (types ts) room = pick (ltb room (4 * length ts)) (Err NoRoom) (Ok (length ts))
answer (refused r) room = Err r

-- "to a lent buffer .. the rest unchanged", "A refusal leaves it unchanged."
unfoldable pub written : Reading → List ℕ → List ℕ
written (types ts) buffer = pick (ltb (length buffer) (4 * length ts)) buffer (overlaid 0 (numbers_of ts) buffer)
written (refused r) buffer = buffer

-- ---- tools of the pass that fills

abbrev pub IsTypes : Reading → Type 0
IsTypes (types ts) = Unit {0}
IsTypes (refused r) = ⊥

abbrev pub records_of : Reading → List TypeRecord
records_of (types ts) = ts
records_of (refused r) = []
