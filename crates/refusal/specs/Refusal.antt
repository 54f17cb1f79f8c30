-- The numbers that document 01, "Descriptors", gives to the refusals of the strict readers.
-- Assumes nothing.
use Rattle.std.specs.Prelude.{ℕ}
use Rattle.refusal.specs.declared.Refusal.{Refusal}
use Rattle.refusal.specs.declared.Refusal.TheVariants.{UnexpectedEnd, TooManyDimensions, LoneClose, TrailingAfterType}
use Rattle.refusal.specs.declared.Refusal.TheVariants.{EmptyClassName, MissingSemicolon, CloseAfterBracket}
use Rattle.refusal.specs.declared.Refusal.TheVariants.{ArrayOfVoid, Unrecognised, MissingOpening, VoidParameter}
use Rattle.refusal.specs.declared.Refusal.TheVariants.{MissingReturn, TrailingAfterMethod, NoRoom}

-- "1 unexpected end; 2 over 255 dimensions; then the InvalidFormat texts: 3 lone `)` as a type, 4 trailing after a type,
-- 5 empty class name, 6 no semicolon, 7 `)` after `[`, 8 array of void, 9 unrecognised, 10 no opening `(`, 11 void parameter,
-- 12 missing return (a second `)`), 13 trailing after a method", "14 (added) if they don't fit"
unfoldable pub number_of : Refusal → ℕ
number_of UnexpectedEnd = 1
number_of TooManyDimensions = 2
number_of LoneClose = 3
number_of TrailingAfterType = 4
number_of EmptyClassName = 5
number_of MissingSemicolon = 6
number_of CloseAfterBracket = 7
number_of ArrayOfVoid = 8
number_of Unrecognised = 9
number_of MissingOpening = 10
number_of VoidParameter = 11
number_of MissingReturn = 12
number_of TrailingAfterMethod = 13
number_of NoRoom = 14
