-- Modified UTF-8, UTF-16 and UTF-8, declared (JVMS 4.4.7; RFC 2781, section 2; RFC 3629, section 3): a text of a class file stands for
-- UTF-16 code units, each in one form; two surrogates that make a pair are one character, and a lone one becomes U+FFFD. The statements
-- are proved in proofs/ of this crate.
-- Assumes nothing.
use Rattle.std.specs.Prelude.{ℕ, ◌+◌, ◌-◌, ◌*◌, ◌/◌, ◌%◌, ◌≤◌, ◌<◌, Bool, true, List, [], ◌∷◌, ◌++◌, ◌≡◌, ltb, length}
use Rattle.basics.specs.Choice.{pick, both, between}
use Rattle.utf8.specs.Turning.{turned, is_modified}

-- "'\u0001' to '\u007F' are represented by a single byte"; "The null code point .. and .. '\u0080' to '\u07FF' .. by a pair of bytes";
-- "'\u0800' to '\uFFFF' .. by 3 bytes"
unfoldable pub unit_bytes : ℕ → List ℕ
unit_bytes u =
    pick (between 1 127 u) (u ∷ [])
    (pick (ltb u 2048) ((192 + u / 64) ∷ (128 + u % 64) ∷ [])
    ((224 + u / 4096) ∷ (128 + u / 64 % 64) ∷ (128 + u % 64) ∷ []))

-- the text of code units
unfoldable pub modified : List ℕ → List ℕ
modified [] = []
modified (u ∷ units) = unit_bytes u ++ modified units

-- the UTF-8 bytes of a character: RFC 3629's table of "Char. number range" and "UTF-8 octet sequence"
unfoldable pub point_bytes : ℕ → List ℕ
point_bytes p =
    pick (ltb p 128) (p ∷ [])
    (pick (ltb p 2048) ((192 + p / 64) ∷ (128 + p % 64) ∷ [])
    (pick (ltb p 65536) ((224 + p / 4096) ∷ (128 + p / 64 % 64) ∷ (128 + p % 64) ∷ [])
    ((240 + p / 262144) ∷ (128 + p / 4096 % 64) ∷ (128 + p / 64 % 64) ∷ (128 + p % 64) ∷ [])))

-- the text of characters
unfoldable pub utf8 : List ℕ → List ℕ
utf8 [] = []
utf8 (p ∷ points) = point_bytes p ++ utf8 points

-- RFC 2781: "between 0xD800 and 0xDBFF", the first of a pair
abbrev pub leads : ℕ → Bool
leads u = between 55296 56319 u

-- RFC 2781: "between 0xDC00 and 0xDFFF", the second
abbrev pub trails : ℕ → Bool
trails u = between 56320 57343 u

-- a unit that is no half of a pair: "a lone surrogate becomes ef bf bd", which is U+FFFD
abbrev pub alone : ℕ → ℕ
alone u = pick (between 55296 57343 u) 65533 u

-- the characters of UTF-16 code units: RFC 2781, "2.2 Decoding UTF-16"
unfoldable pub points : List ℕ → List ℕ
points [] = []
points (u ∷ []) = alone u ∷ []
points (u ∷ (v ∷ units)) =
    pick (both (leads u) (trails v)) ((65536 + (u - 55296) * 1024 + (v - 56320)) ∷ points units) (alone u ∷ points (v ∷ units))

-- each is a code unit of 16 bits
pub data Units : List ℕ → Type 0 where
  none : Units []
  more : {u : ℕ} {units : List ℕ} → u < 65536 → Units units → Units (u ∷ units)

-- ---- the statements

pub record TextDeclared : Type 0 where
  -- exactly the texts of code units are right
  pub right : (units : List ℕ) → Units units → is_modified (modified units) ≡ true
  pub only : (text : List ℕ) → is_modified text ≡ true → (units : List ℕ) × Units units × (text ≡ modified units)
  -- each turns to the text of its characters
  pub turns : (units : List ℕ) → Units units → turned (modified units) ≡ utf8 (points units)
  -- no text grows
  pub shorter : (text : List ℕ) → length (turned text) ≤ length text
