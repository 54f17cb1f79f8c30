-- An answer is told by its numbers: it is read back from them. What is said is delivered in one way.
-- Assumes nothing.
use Prim.Native.Nat.{ℕ}
use mathlib.Core.List.{List}
use mathlib.Core.Path.{◌≡◌, refl, ◌∙◌, sym, ap}
use lib.Dec.{eqb}
use lib.ListN.{get_or}
use Rattle.basics.specs.Choice.{pick}
use Rattle.basics.proofs.Outcome.{one_outcome}
use Rattle.answer.specs.Answers.{NumberedInjective}
use Rattle.answer.specs.Answer.{Said, Delivered, numbered}
use Rattle.answer.specs.declared.Report.{Report}
use Rattle.answer.specs.declared.Report.TheVariants.{Message, NoMessage, Broken, NoRoom, NoOutput, TooLong, NoWording}

-- the answer with these numbers
answered : List ℕ → Report
answered numbers =
    pick (eqb (get_or numbers 0 0) 0) (Message (get_or numbers 1 0) (get_or numbers 2 0) (get_or numbers 3 0) (get_or numbers 4 0))
    (pick (eqb (get_or numbers 0 0) 1) NoMessage
    (pick (eqb (get_or numbers 0 0) 2) (Broken (get_or numbers 1 0))
    (pick (eqb (get_or numbers 0 0) 3) (NoRoom (get_or numbers 1 0))
    (pick (eqb (get_or numbers 0 0) 4) (NoOutput (get_or numbers 1 0))
    (pick (eqb (get_or numbers 0 0) 5) TooLong NoWording)))))

read_back : (answer : Report) → answered (numbered answer) ≡ answer
unfolding numbered answered
read_back (Message size kind scan block) = refl
read_back NoMessage = refl
read_back (Broken offset) = refl
read_back (NoRoom index) = refl
read_back (NoOutput size) = refl
read_back TooLong = refl
read_back NoWording = refl

pub numbered_injective : NumberedInjective
numbered_injective one another e = sym (read_back one) ∙ ap answered e ∙ read_back another

pub delivered-once :
    {what : Said} {out left left' : List ℕ} {one another : Report} →
    Delivered what out one left → Delivered what out another left' → (one ≡ another) × (left ≡ left')
delivered-once is was = (one_outcome is.answers was.answers, one_outcome is.leaves was.leaves)
