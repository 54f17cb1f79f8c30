-- The numbers of an answer tell it.
-- Assumes nothing.
use Prim.Native.Nat.{ℕ}
use mathlib.Core.Path.{◌≡◌, refl, ◌∙◌, sym, ap}
use mathlib.Core.List.{List}
use lib.Dec.{eqb}
use lib.ListN.{get_or}
use Rattle.basics.specs.Choice.{pick}
use Rattle.walk.specs.Answers.{NumberedInjective}
use Rattle.walk.specs.Room.{numbered}
use Rattle.walk.specs.declared.Walk.{Walk}
use Rattle.walk.specs.declared.Walk.TheVariants.{Done, Failed, NoRoom}

-- the answer of numbers
abbrev answered : List ℕ → Walk
answered l =
    pick (eqb (get_or l 0 0) 0) (Done (get_or l 1 0) (get_or l 2 0))
    (pick (eqb (get_or l 0 0) 1) (Failed (get_or l 1 0)) (NoRoom (get_or l 1 0)))

back : (answer : Walk) → answered (numbered answer) ≡ answer
unfolding numbered
back (Done height count) = refl
back (Failed count) = refl
back (NoRoom index) = refl

pub numbered_injective : NumberedInjective
numbered_injective one other e = sym (back one) ∙ ap answered e ∙ back other
