-- `report::model_by` meets its contract. 0, and what is behind it.
-- Assumes nothing.
use Prim.Native.Nat.{ℕ, zero, suc}
use mathlib.Core.List.{[], ◌∷◌}
use mathlib.Core.Path.{◌≡◌, refl, sym}
use Rattle.basics.proofs.Keys.{Unkeyed}
use Rattle.effects.specs.declared.Model.TheVariants.{Full}
use Rattle.report.specs.Report.{model_by}
use Rattle.report.proofs.model_by.Goals as goal

full-so : (n : ℕ) → Unkeyed ((0 ∷ []) ∷ []) n → model_by n ≡ Full
full-so zero rest = absurd (rest.1 refl)
full-so (suc n) rest = refl

pub returns-in_default : goal.returns-in_default
returns-in_default c = sym (full-so c.args.full c.in_default.in_default-own.rest)
