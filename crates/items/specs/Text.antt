-- A text of a case (document 01, "The case"), and the three texts of a member as parts of one part.
-- Assumes nothing.
use Rattle.std.specs.Prelude.{ℕ, ◌+◌, ◌-◌, ◌≤◌, ◌<◌, List, [], ◌++◌, leb, length, take, drop, Option, Some, None}
use Rattle.basics.specs.Choice.{pick}
use Rattle.number.specs.Number.{greatest, number_bytes, number_at, then_number}

-- "A text is a length number and that many bytes."
unfoldable pub text_bytes : List ℕ → List ℕ
text_bytes t = number_bytes (length t) ++ t

-- the text at a place
unfoldable pub text_at : List ℕ → ℕ → Option (ℕ × ℕ)
text_at bytes at =
    then_number (number_at greatest bytes at) None (λ size start.
    pick (leb size (length bytes - start)) (Some (start, size)) None)

-- what follows a text, or the answer where there is none
abbrev pub then_text : {A : Type 0} → Option (ℕ × ℕ) → A → (ℕ → ℕ → A) → A
then_text (Some (start, size)) otherwise following = following start size
then_text None otherwise following = otherwise

-- a text that is read lies in the bytes
abbrev pub text_within : ℕ → ℕ → Option (ℕ × ℕ) → Type 0
text_within size at (Some (start, n)) = (n ≤ greatest) × (at < start) × (start + n ≤ size)
text_within size at None = Unit {0}

-- ---- parts

-- so many bytes from a place on
abbrev pub part_at : List ℕ → ℕ → ℕ → List ℕ
part_at bytes start size = take size (drop start bytes)

-- the bytes of the text at a place, none where there is no text
unfoldable pub text_part : List ℕ → ℕ → List ℕ
text_part bytes at = then_text (text_at bytes at) [] (λ start size. take size (drop start bytes))

-- the place behind the text at a place, the end where there is no text
unfoldable pub after_text : List ℕ → ℕ → ℕ
after_text bytes at = then_text (text_at bytes at) (length bytes) (λ start size. start + size)

-- "class text, name text, descriptor text"
unfoldable pub class_of : List ℕ → List ℕ
class_of texts = text_part texts 0

unfoldable pub name_of : List ℕ → List ℕ
name_of texts = text_part texts (after_text texts 0)

unfoldable pub descriptor_of : List ℕ → List ℕ
descriptor_of texts = text_part texts (after_text texts (after_text texts 0))
