-- What holds of both choices holds of the one chosen.
-- Assumes nothing.
use mathlib.Core.Bool.{Bool, true, false}
use Rattle.basics.specs.Choice.{pick}

pub chosen : {A : Type 0} (P : A → Type 0) (b : Bool) (x y : A) → P x → P y → P (pick b x y)
chosen P true x y p q = p
chosen P false x y p q = q
