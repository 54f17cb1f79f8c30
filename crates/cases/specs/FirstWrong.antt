-- The first wrong item of a case, declared (document 01: "2: the case breaks its layout", with the "offset of the first wrong
-- item"; "A wrong item's offset is that of its first byte; a text starts at its length number; excess bytes at the first
-- one"). An item is each number and each text. The statements at the end are proved in proofs/ of this crate.
-- Assumes nothing.
use Rattle.std.specs.Prelude.{ℕ, ◌+◌, ◌≤◌, ◌<◌, ◌≡◌, Bool, List, T, length, Err}
use Rattle.basics.specs.Bytes.{AreBytes}
use Rattle.number.specs.Number.{greatest, number_bytes}
use Rattle.items.specs.Text.{text_bytes}
use Rattle.tables.specs.Layout.{Layout, number, sized, may_end, ended, case_layout}
use Rattle.casefile.specs.Whole.{longest, case_of}
use Rattle.casefile.specs.declared.CaseError.TheVariants.{Wrong, TooLong}
use Rattle.cases.specs.Standing.{Stands}

-- the bytes before a place are whole right items of the layout, in order, and this is what the layout has from there on
pub data Reached (bytes : List ℕ) : Layout → ℕ → Type 0 where
  start : Reached bytes case_layout 0
  after_number :
      {right : ℕ → Bool} {following : ℕ → Layout} {at : ℕ} (v : ℕ) → Reached bytes (number right following) at →
      v ≤ greatest → T (right v) → Stands bytes at (number_bytes v) → Reached bytes (following v) (at + length (number_bytes v))
  after_text :
      {following : ℕ → Layout} {at : ℕ} (t : List ℕ) → Reached bytes (sized following) at →
      length t ≤ greatest → Stands bytes at (text_bytes t) → Reached bytes (following (length t)) (at + length (text_bytes t))
  goes_on : {following : Layout} {at : ℕ} → Reached bytes (may_end following) at → at < length bytes → Reached bytes following at
  ends_here : {following : Layout} {at : ℕ} → Reached bytes (may_end following) at → length bytes ≤ at → Reached bytes ended at

-- what is due at a place does not stand there: no number that passes its test, or no text, begins at the place, be it cut by
-- the end or not of its own form; or nothing is due, and there is a byte in excess. Where the bytes may end nothing is wrong yet:
-- they end, or what follows is due at the same place.
abbrev pub NothingRight : List ℕ → Layout → ℕ → Type 0
NothingRight bytes (number right following) at =
    (v : ℕ) → v ≤ greatest → T (right v) → Stands bytes at (number_bytes v) → ⊥
NothingRight bytes (sized following) at = (t : List ℕ) → length t ≤ greatest → Stands bytes at (text_bytes t) → ⊥
NothingRight bytes (may_end following) at = ⊥
NothingRight bytes ended at = at < length bytes

-- the first wrong item of a case has this offset
pub record FirstWrong (bytes : List ℕ) (offset : ℕ) : Type 0 where
  pub due : Layout
  pub reached : Reached bytes due offset
  pub wrong : NothingRight bytes due offset

-- ---- the statements

-- A case that is not too long is answered 2 with an offset exactly where its first wrong item has this offset; so at most
-- one offset is that of the first wrong item. It is answered 5 exactly where it exceeds 1,048,576 bytes.
pub record FirstWrongDeclared : Type 0 where
  pub means : (bytes : List ℕ) → AreBytes bytes → (offset : ℕ) → case_of bytes ≡ Err (Wrong offset) → FirstWrong bytes offset
  pub only :
      (bytes : List ℕ) → AreBytes bytes → (offset : ℕ) → length bytes ≤ longest → FirstWrong bytes offset →
      case_of bytes ≡ Err (Wrong offset)
  pub one :
      (bytes : List ℕ) → AreBytes bytes → (offset another : ℕ) → FirstWrong bytes offset → FirstWrong bytes another →
      offset ≡ another
  pub too_long : (bytes : List ℕ) → longest < length bytes → case_of bytes ≡ Err TooLong
  pub not_too_long : (bytes : List ℕ) → case_of bytes ≡ Err TooLong → longest < length bytes
