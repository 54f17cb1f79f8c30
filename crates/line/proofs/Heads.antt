-- The head of each answer, piece by piece: the digit that the code writes is document 01's number.
-- Assumes nothing.
use Prim.Native.Nat.{ℕ}
use mathlib.Core.Path.{◌≡◌, refl}
use mathlib.Core.List.{◌++◌, append_assoc, append-nil}
use Rattle.basics.specs.Ascii.{ascii}
use Rattle.text.specs.Decimal.{digits, decimal}
use Rattle.answer.specs.Answer.{numbered}
use Rattle.answer.specs.declared.Report.TheVariants.{Message, NoMessage, Broken, NoRoom, NoOutput, TooLong, NoWording}
use Rattle.line.specs.Head.{spaced, all_spaced, head_by, head_text}
use Rattle.line.specs.Pieces.{carried, counted}

zero_spaced : spaced 0 ≡ ascii "0 "
unfolding spaced decimal digits
zero_spaced = refl

pub head_of_message : (size kind scan block : ℕ) → head_text (Message size kind scan block) ≡ counted kind scan block
unfolding head_text head_by all_spaced counted numbered
head_of_message size kind scan block = simp (zero_spaced, append_assoc, append-nil)

pub head_of_none : head_text NoMessage ≡ ascii "1 0 0 0"
unfolding head_text head_by numbered decimal digits
head_of_none = refl

pub head_of_broken : (offset : ℕ) → head_text (Broken offset) ≡ carried (ascii "2") offset
unfolding head_text head_by numbered carried decimal digits
head_of_broken offset = refl

pub head_of_roomless : (index : ℕ) → head_text (NoRoom index) ≡ carried (ascii "3") index
unfolding head_text head_by numbered carried decimal digits
head_of_roomless index = refl

pub head_of_outless : (size : ℕ) → head_text (NoOutput size) ≡ carried (ascii "4") size
unfolding head_text head_by numbered carried decimal digits
head_of_outless size = refl

pub head_of_long : head_text TooLong ≡ ascii "5 0 0 0"
unfolding head_text head_by numbered decimal digits
head_of_long = refl

pub head_of_unworded : head_text NoWording ≡ ascii "11 0 0 0"
unfolding head_text head_by numbered decimal digits
head_of_unworded = refl
