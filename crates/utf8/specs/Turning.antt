-- A text of a class file, judged and turned from modified UTF-8 (JVMS 4.4.7) to UTF-8, from the left (document 02, request 3: "Names
-- are turned from modified UTF-8 to UTF-8; a lone surrogate becomes ef bf bd; any other breach in a Utf8 entry is 6").
-- specs/Units.antt says what that means without a reader.
-- Assumes nothing.
use Rattle.std.specs.Prelude.{ℕ, zero, suc, ◌+◌, ◌*◌, ◌/◌, ◌%◌, ◌≤◌, Bool, true, false, List, [], ◌∷◌, ◌++◌, ◌≡◌, eqb, leb, length, take, drop}
use Rattle.basics.specs.Bytes.{byte_at}
use Rattle.basics.specs.Choice.{pick, both, between}
use Rattle.utf8.specs.declared.Turn.{Turn}

-- ---- the bytes of one unit, each in its one form

-- "'\u0001' to '\u007F' are represented by a single byte"
abbrev pub is_single : ℕ → Bool
is_single x = between 1 127 x

-- a byte that goes on with a unit: "Bit 7 1, bit 6 0"
abbrev pub is_tail : ℕ → Bool
is_tail byte = between 128 191 byte

-- "The null code point .. and .. '\u0080' to '\u07FF' are represented by a pair of bytes x and y": c0 80, or c2 80 to df bf
abbrev pub is_pair : ℕ → ℕ → Bool
is_pair x y = pick (eqb x 192) (eqb y 128) (both (between 194 223 x) (is_tail y))

-- "'\u0800' to '\uFFFF' are represented by 3 bytes x, y, and z": e0 a0 80 to ef bf bf
abbrev pub is_triple : ℕ → ℕ → ℕ → Bool
is_triple x y z = both (is_tail z) (pick (eqb x 224) (between 160 191 y) (both (between 225 239 x) (is_tail y)))

-- how many bytes the unit has that these start with, 0 where none does
unfoldable pub size_by : ℕ → ℕ → ℕ → ℕ
size_by x y z = pick (is_single x) 1 (pick (is_pair x y) 2 (pick (is_triple x y z) 3 0))

-- the same of the first bytes of a list, where a byte past the end is 0 and stands in no form
unfoldable pub size_of : List ℕ → ℕ
size_of bytes = size_by (byte_at bytes 0) (byte_at bytes 1) (byte_at bytes 2)

-- ---- a text that is modified UTF-8

-- one more unit, if there is one
abbrev pub right_after : ℕ → (ℕ → Bool) → Bool
right_after zero following = false
right_after (suc n) following = following (suc n)

-- at most k units, up to the end
unfoldable pub right_by : ℕ → List ℕ → Bool
right_by zero bytes = leb (length bytes) 0
right_by (suc k) bytes = pick (leb (length bytes) 0) true (right_after (size_of bytes) (λ size. right_by k (drop size bytes)))

-- "any other breach in a Utf8 entry is 6"; a unit has a byte at least, so a text has at most as many units as bytes
unfoldable pub is_modified : List ℕ → Bool
is_modified bytes = right_by (length bytes) bytes

-- ---- what a unit, or two that are one character, turn to

-- how many bytes are taken, and the bytes of UTF-8 that are given for them
pub record Turned : Type 0 where
  pub taken : ℕ
  pub given : List ℕ

abbrev pub turns : ℕ → List ℕ → Turned
turns taken given = record { taken = taken; given = given }

-- the null character is the byte 0
abbrev pub pair_by : ℕ → ℕ → Turned
pair_by x y = pick (eqb x 192) (turns 2 (0 ∷ [])) (turns 2 (x ∷ y ∷ []))

-- the last of two surrogates that are one character: ed b0 80 to ed bf bf
abbrev pub is_trail : ℕ → ℕ → ℕ → Bool
is_trail u v w = both (eqb u 237) (both (between 176 191 v) (is_tail w))

-- "0x10000 + ((v & 0x0f) << 16) + ((w & 0x3f) << 10) + ((y & 0x0f) << 6) + (z & 0x3f)", where the first three bytes are u, v, w and
-- the last three x, y, z; here it is the other way round
abbrev pub point_by : ℕ → ℕ → ℕ → ℕ → ℕ
point_by y z v w = 65536 + (y % 16) * 65536 + (z % 64) * 1024 + (v % 16) * 64 + w % 64

-- RFC 3629, section 3: "11110xxx 10xxxxxx 10xxxxxx 10xxxxxx"
abbrev pub four_bytes : ℕ → List ℕ
four_bytes point =
    (240 + point / 262144) ∷ (128 + point / 4096 % 64) ∷ (128 + point / 64 % 64) ∷ (128 + point % 64) ∷ []

-- "a lone surrogate becomes ef bf bd"
abbrev pub surrogate_by : ℕ → ℕ → ℕ → ℕ → ℕ → Turned
surrogate_by y z u v w =
    pick (both (leb y 175) (is_trail u v w)) (turns 6 (four_bytes (point_by y z v w))) (turns 3 (239 ∷ 191 ∷ 189 ∷ []))

-- a surrogate is ed a0 80 to ed bf bf; any other unit of three bytes is the same in both
abbrev pub triple_by : ℕ → ℕ → ℕ → ℕ → ℕ → ℕ → Turned
triple_by x y z u v w = pick (both (eqb x 237) (leb 160 y)) (surrogate_by y z u v w) (turns 3 (x ∷ y ∷ z ∷ []))

-- what these six bytes start with; nothing is taken where they start with no unit
unfoldable pub turn_by : ℕ → ℕ → ℕ → ℕ → ℕ → ℕ → Turned
turn_by x y z u v w =
    pick (is_single x) (turns 1 (x ∷ []))
    (pick (is_pair x y) (pair_by x y)
    (pick (is_triple x y z) (triple_by x y z u v w) (turns 0 [])))

-- the same of the first bytes of a list
unfoldable pub turn_of : List ℕ → Turned
turn_of bytes =
    turn_by (byte_at bytes 0) (byte_at bytes 1) (byte_at bytes 2) (byte_at bytes 3) (byte_at bytes 4) (byte_at bytes 5)

-- the code has room for four bytes, of which the first are given
pub record TurnIs (turn : Turn) (is : Turned) : Type 0 where
  pub takes : turn.taken ≡ is.taken
  pub gives : take turn.given turn.bytes ≡ is.given
  pub few : turn.given ≤ 4
  pub room : length turn.bytes ≡ 4

-- ---- a text turned

-- what is given from here on, nothing where nothing is taken
abbrev pub go_on : ℕ → (ℕ → List ℕ) → List ℕ
go_on zero following = []
go_on (suc n) following = following (suc n)

-- at most k units; it ends where no unit starts
unfoldable pub turned_by : ℕ → List ℕ → List ℕ
turned_by zero bytes = []
turned_by (suc k) bytes = go_on (turn_of bytes).taken (λ taken. (turn_of bytes).given ++ turned_by k (drop taken bytes))

-- "Names are turned from modified UTF-8 to UTF-8"
unfoldable pub turned : List ℕ → List ℕ
turned bytes = turned_by (length bytes) bytes
