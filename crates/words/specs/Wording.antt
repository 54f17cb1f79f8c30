-- The wordings of a message (document 02, request 11): "JVMS uses `baload` and `bastore` for both array kinds [...] Add wording 2, which
-- prints byte/boolean there; wording 1 is the present text."
-- Assumes nothing.
use Rattle.std.specs.Prelude.{ℕ, List, [], ◌∷◌, get_or, Option, Some, None}
use Rattle.basics.specs.Ascii.{ascii}
use Rattle.words.specs.declared.Wording.{Wording}
use Rattle.words.specs.declared.Wording.TheVariants.{Byte, ByteBoolean}

abbrev pub byte_text : Wording → List ℕ
byte_text Byte = ascii "byte"
byte_text ByteBoolean = ascii "byte/boolean"

-- the wording that a number names, from 0 on
abbrev pub wording_by : ℕ → Option Wording
wording_by number = get_or (None ∷ Some Byte ∷ Some ByteBoolean ∷ []) number None
