-- What the strict readers answer, and what a reading is judged to be before room is looked at (document 01, "Descriptors", strict).
-- Assumes nothing.
use Rattle.std.specs.Prelude.{ℕ, ◌+◌, List, [], ◌∷◌, length, Result, Ok, Err}
use Rattle.refusal.specs.Refusal.{number_of}
use Rattle.refusal.specs.declared.Refusal.{Refusal}
use Rattle.judging.specs.Reading.{Reading, types, refused}

-- what a strict reader answers: how many types were read and written, or a refusal
abbrev pub Answer : Type 0
Answer = Result ℕ Refusal

-- an answer as document 01's numbers: 0 and the count of types, or the refusal's number
unfoldable pub numbered : Answer → List ℕ
numbered (Ok count) = 0 ∷ count ∷ []
numbered (Err r) = number_of r ∷ []

-- the answer where there is room
abbrev pub judged : Reading → Answer
judged (types ts) = Ok (length ts)
judged (refused r) = Err r

-- with so many more types in front
abbrev pub raised : ℕ → Answer → Answer
raised n (Ok count) = Ok (n + count)
raised n (Err r) = Err r
