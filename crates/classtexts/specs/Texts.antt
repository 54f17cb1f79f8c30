-- A member, a local record and a signature whose texts are those of a class file, turned (document 02, request 3: "Names are turned from
-- modified UTF-8 to UTF-8").
-- Assumes nothing.
use Rattle.std.specs.Prelude.{ℕ, List, ◌∷◌, ◌++◌}
use Rattle.cases.specs.LaidOut.{Member, Local}
use Rattle.utf8.specs.Turning.{turned}

-- pool index, kind, and the texts of its class, its name and its descriptor
abbrev pub turned_member : ℕ → ℕ → List ℕ → List ℕ → List ℕ → Member
turned_member index kind class name descriptor =
    record { index = index; kind = kind; class = turned class; name = turned name; descriptor = turned descriptor }

-- start, length, slot, and the text of its name
abbrev pub turned_local : ℕ → ℕ → ℕ → List ℕ → Local
turned_local start size slot name = record { start = start; size = size; slot = slot; name = turned name }

-- the signature of a method: its name, a colon, its descriptor
abbrev pub signature_of : List ℕ → List ℕ → List ℕ
signature_of name descriptor = turned name ++ (58 ∷ turned descriptor)
