-- A refusal is told by its number.
-- Assumes nothing.
use Prim.Native.Nat.{ℕ}
use mathlib.Core.Path.{◌≡◌, refl, ◌∙◌, sym, ap}
use lib.Dec.{eqb}
use Rattle.basics.specs.Choice.{pick}
use Rattle.refusal.specs.Refusal.{number_of}
use Rattle.refusal.specs.declared.Refusal.{Refusal}
use Rattle.refusal.specs.declared.Refusal.TheVariants.{UnexpectedEnd, TooManyDimensions, LoneClose, TrailingAfterType}
use Rattle.refusal.specs.declared.Refusal.TheVariants.{EmptyClassName, MissingSemicolon, CloseAfterBracket}
use Rattle.refusal.specs.declared.Refusal.TheVariants.{ArrayOfVoid, Unrecognised, MissingOpening, VoidParameter}
use Rattle.refusal.specs.declared.Refusal.TheVariants.{MissingReturn, TrailingAfterMethod, NoRoom}

abbrev refusal : ℕ → Refusal
refusal n =
    pick (eqb n 1) UnexpectedEnd
    (pick (eqb n 2) TooManyDimensions
    (pick (eqb n 3) LoneClose
    (pick (eqb n 4) TrailingAfterType
    (pick (eqb n 5) EmptyClassName
    (pick (eqb n 6) MissingSemicolon
    (pick (eqb n 7) CloseAfterBracket
    (pick (eqb n 8) ArrayOfVoid
    (pick (eqb n 9) Unrecognised
    (pick (eqb n 10) MissingOpening
    (pick (eqb n 11) VoidParameter
    (pick (eqb n 12) MissingReturn
    (pick (eqb n 13) TrailingAfterMethod NoRoom))))))))))))

refusal_is : (r : Refusal) → refusal (number_of r) ≡ r
unfolding number_of
refusal_is UnexpectedEnd = refl
refusal_is TooManyDimensions = refl
refusal_is LoneClose = refl
refusal_is TrailingAfterType = refl
refusal_is EmptyClassName = refl
refusal_is MissingSemicolon = refl
refusal_is CloseAfterBracket = refl
refusal_is ArrayOfVoid = refl
refusal_is Unrecognised = refl
refusal_is MissingOpening = refl
refusal_is VoidParameter = refl
refusal_is MissingReturn = refl
refusal_is TrailingAfterMethod = refl
refusal_is NoRoom = refl

pub number_injective : (one another : Refusal) → number_of one ≡ number_of another → one ≡ another
number_injective one another e = sym (refusal_is one) ∙ ap refusal e ∙ refusal_is another
