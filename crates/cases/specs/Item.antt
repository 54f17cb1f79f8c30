-- Numbers and texts, declared (document 01: "A number is 0 to 65,535, seven bits to a byte, low group first, top bit set when
-- another byte follows, in its fewest bytes (one to three). A text is a length number and that many bytes."). The statements
-- at the end are proved in proofs/ of this crate, for any limit.
-- Assumes nothing.
use Rattle.std.specs.Prelude.{ℕ, ◌+◌, ◌*◌, ◌≤◌, ◌<◌, ◌≡◌, List, [], ◌∷◌, length, take, drop, Some}
use Rattle.basics.specs.Bytes.{AreBytes}
use Rattle.number.specs.Number.{greatest, number_bytes, number_at}
use Rattle.items.specs.Text.{text_bytes, text_at}
use Rattle.cases.specs.Standing.{Stands}

-- bytes that stand for a number, in the fewest or not: seven bits to a byte, low group first, top bit set when another follows
pub data Groups : ℕ → List ℕ → Type 0 where
  last : {group : ℕ} → group < 128 → Groups group (group ∷ [])
  before : {group v : ℕ} {run : List ℕ} → group < 128 → Groups v run → Groups (group + 128 * v) ((128 + group) ∷ run)

-- ---- the statements

-- The bytes of a number stand for it, no fewer do, and no others as few. A number is read, with the place after it, exactly
-- where its bytes stand and it is at most the limit.
pub record NumberDeclared : Type 0 where
  pub groups : (v : ℕ) → Groups v (number_bytes v)
  pub fewest : (v : ℕ) (run : List ℕ) → Groups v run → length (number_bytes v) ≤ length run
  pub only : (v : ℕ) (run : List ℕ) → Groups v run → length run ≤ length (number_bytes v) → run ≡ number_bytes v
  pub three_at_most : (v : ℕ) → v ≤ greatest → length (number_bytes v) ≤ 3
  pub reads :
      (limit : ℕ) (bytes : List ℕ) (at v : ℕ) → v ≤ limit → Stands bytes at (number_bytes v) →
      number_at limit bytes at ≡ Some (v, at + length (number_bytes v))
  pub stands :
      (limit : ℕ) (bytes : List ℕ) (at v next : ℕ) → AreBytes bytes → number_at limit bytes at ≡ Some (v, next) →
      Stands bytes at (number_bytes v) × (next ≡ at + length (number_bytes v)) × (v ≤ limit)

-- A text is read, as the place of its bytes, exactly where it stands and is at most 65,535 bytes long.
pub record TextDeclared : Type 0 where
  pub reads :
      (bytes : List ℕ) (at : ℕ) (t : List ℕ) → length t ≤ greatest → Stands bytes at (text_bytes t) →
      text_at bytes at ≡ Some (at + length (number_bytes (length t)), length t)
  pub part :
      (bytes : List ℕ) (at : ℕ) (t : List ℕ) → Stands bytes at (text_bytes t) →
      take (length t) (drop (at + length (number_bytes (length t))) bytes) ≡ t
  pub stands :
      (bytes : List ℕ) (at start size : ℕ) → AreBytes bytes → text_at bytes at ≡ Some (start, size) →
      Stands bytes at (text_bytes (take size (drop start bytes))) × (length (take size (drop start bytes)) ≡ size)
      × (size ≤ greatest)
