-- What the code's effects stand for: the effects of the walk's rule (crates/walk/specs/Walk.antt), but for why one fails.
-- Assumes nothing.
use Rattle.std.specs.Prelude.{ℕ, ◌+◌, Option, Some, None}
use Rattle.row.specs.Code.{copy_places, swap_places}
use Rattle.walk.specs.Walk.{not_modelled, Push, blanks, load, carried, unread, Effect, fails, does}
use Rattle.instruction.specs.declared.Effect.{Effect as CodeEffect}
use Rattle.instruction.specs.declared.Effect.TheVariants.{Opaque, Load, Copies, Swap}

-- the code knows that an effect fails, not why
abbrev pub effect_from : Option CodeEffect → Effect
effect_from None = fails not_modelled
effect_from (Some (Opaque takes gives)) = does takes (blanks gives)
effect_from (Some (Load local)) = does 0 (load local)
effect_from (Some (Copies count under)) = does (count + under) (carried (copy_places count under))
effect_from (Some Swap) = does 2 (carried swap_places)

abbrev pub bare_push : ℕ → Push → Effect
bare_push takes (blanks n) = does takes (blanks n)
bare_push takes (load local) = does takes (load local)
bare_push takes (carried places) = does takes (carried places)
bare_push takes (unread reason) = fails not_modelled

-- an effect without its reason
abbrev pub bare : Effect → Effect
bare (fails reason) = fails not_modelled
bare (does takes push) = bare_push takes push
