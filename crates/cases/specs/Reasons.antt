-- Why an item is wrong (document 01, "The case"): it is cut by the end, breaks its own rule, or is in excess. The statement
-- at the end is proved in proofs/ of this crate.
-- Assumes nothing.
use Rattle.std.specs.Prelude.{ℕ, ◌+◌, ◌≤◌, ◌<◌, ◌≡◌, Bool, false, List, length}
use Rattle.basics.specs.Bytes.{byte_at, AreBytes}
use Rattle.number.specs.Number.{greatest, number_bytes}
use Rattle.tables.specs.Layout.{Layout, number, sized, may_end, ended, any}
use Rattle.cases.specs.FirstWrong.{FirstWrong}
use Rattle.cases.specs.Item.{Groups}
use Rattle.cases.specs.Standing.{Stands}

-- what is wrong with the number at a place
pub data WrongNumber (right : ℕ → Bool) (bytes : List ℕ) (at : ℕ) : Type 0 where
  -- each byte to the end says that another follows
  cut : ((i : ℕ) → at ≤ i → i < length bytes → 128 ≤ byte_at bytes i) → WrongNumber right bytes at
  -- it is not in its fewest bytes
  long : {v : ℕ} {run : List ℕ} → Groups v run → Stands bytes at run → length (number_bytes v) < length run → WrongNumber right bytes at
  -- it is above 65,535
  large : {v : ℕ} {run : List ℕ} → Groups v run → Stands bytes at run → greatest < v → WrongNumber right bytes at
  -- it breaks the rule of its place
  refused : {v : ℕ} {run : List ℕ} → Groups v run → Stands bytes at run → right v ≡ false → WrongNumber right bytes at

-- what is wrong with the text at a place: its length number, or there are fewer bytes than that
pub data WrongText (bytes : List ℕ) (at : ℕ) : Type 0 where
  size : WrongNumber any bytes at → WrongText bytes at
  short : (n : ℕ) → Stands bytes at (number_bytes n) → length bytes < at + length (number_bytes n) + n → WrongText bytes at

-- what is wrong with what is due at a place
abbrev pub Reason : List ℕ → Layout → ℕ → Type 0
Reason bytes (number right following) at = WrongNumber right bytes at
Reason bytes (sized following) at = WrongText bytes at
Reason bytes (may_end following) at = ⊥
Reason bytes ended at = at < length bytes

-- ---- the statement

-- the first wrong item is wrong for one of these reasons
abbrev pub WrongForAReason : Type 0
WrongForAReason =
    (bytes : List ℕ) → AreBytes bytes → (offset : ℕ) (first : FirstWrong bytes offset) → Reason bytes first.due offset
