-- A table that serves changes no lookup, and what an effect of the code stands for tells it.
-- Assumes nothing.
use Rattle.std.specs.Prelude.{Option, Some, None}
use Prim.Native.Nat.{ℕ}
use mathlib.Core.Path.{◌≡◌, refl, ◌∙◌, sym, ap, fun_ext}
use Rattle.basics.specs.Choice.{pick}
use Rattle.index.proofs.Tables.{found-by}
use Rattle.effects.specs.Lookup.{known_by, lookup_in}
use Rattle.row.proofs.Places.{is_swap, count_of, under_of, copies_told}
use Rattle.walk.specs.Walk.{Push, blanks, load, carried, unread, Effect, fails, does}
use Rattle.instruction.specs.Code.{effect_from}
use Rattle.instruction.specs.Laws.{LooksAlike, EffectFromInjective}
use Rattle.instruction.specs.Lookup.{lookup_by}
use Rattle.instruction.specs.declared.Effect.{Effect as CodeEffect}
use Rattle.instruction.specs.declared.Effect.TheVariants.{Opaque, Load, Copies, Swap}

pub looks_alike : LooksAlike
unfolding lookup_by lookup_in
looks_alike members count table serves =
    fun_ext (λ kind. fun_ext (λ index. ap known_by (found-by members count table index kind serves)))

abbrev pushing : ℕ → Push → Option CodeEffect
pushing takes (blanks n) = Some (Opaque takes n)
pushing takes (load local) = Some (Load local)
pushing takes (carried places) = Some (pick (is_swap takes places) Swap (Copies (count_of takes places) (under_of takes places)))
pushing takes (unread reason) = None

abbrev code_of : Effect → Option CodeEffect
code_of (fails reason) = None
code_of (does takes push) = pushing takes push

back : (effect : Option CodeEffect) → code_of (effect_from effect) ≡ effect
back None = refl
back (Some (Opaque takes gives)) = refl
back (Some (Load local)) = refl
back (Some (Copies count under)) = ap (λ (e : CodeEffect). Some e) (copies_told Swap Copies count under)
back (Some Swap) = refl

pub effect_from_injective : EffectFromInjective
effect_from_injective one other e = sym (back one) ∙ ap code_of e ∙ back other
