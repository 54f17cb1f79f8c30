-- `instruction::effect_of` meets its contract. One case a row, each as its own function answers.
-- Assumes nothing.
use mathlib.Core.Path.{◌≡◌, refl, ◌∙◌, sym, ap, subst}
use Rattle.effects.specs.Rows.{Row, rows_of}
use Rattle.key.specs.Key.{key_from}
use Rattle.row.specs.Code.{row_from, Few}
use Rattle.row.specs.declared.Row.{Row as CodeRow}
use Rattle.walk.specs.Walk.{Effect, effect_by}
use Rattle.instruction.specs.Code.{bare}
use Rattle.instruction.specs.Lookup.{lookup_by}
use Rattle.instruction.proofs.effect_of.Goals as goal
use Rattle.instruction.proofs.effect_of.Goals.{After-row_in}

-- what the rule says by a row
abbrev told : After-row_in → Row → Effect
told c row =
    let a = c.args in
    bare (effect_by (lookup_by a.members.now a.count a.table.now) a.code.now a.pc row)

-- the row of the key
abbrev ruled : After-row_in → Row
ruled c = let a = c.args in rows_of a.model (key_from a.key)

-- by the row that the code found
found : (c : After-row_in) (row : CodeRow) → c.row_in.result ≡ row → row_from row ≡ ruled c
found c row same = ap row_from (sym same) ∙ c.row_in.ensures.row

-- it takes few slots besides those of its member
few_in : (c : After-row_in) (row : CodeRow) → c.row_in.result ≡ row → Few row
few_in c row same = subst Few same c.row_in.ensures.few

by_row :
    (c : After-row_in) (row : CodeRow) (effect : Effect) → c.row_in.result ≡ row → effect ≡ told c (row_from row) →
    effect ≡ told c (ruled c)
by_row c row effect same e = e ∙ ap (told c) (found c row same)

pub call_effect-requires : goal.call_effect-requires
call_effect-requires c = few_in (goal.at.call_effect-requires c).After-row_in _ c.in-Calls.is

pub put_effect-requires : goal.put_effect-requires
put_effect-requires c = few_in (goal.at.put_effect-requires c).After-row_in _ c.in-Puts.is

pub returns-in-Unmodelled : goal.returns-in-Unmodelled
returns-in-Unmodelled c = by_row (goal.at.returns-in-Unmodelled c).After-row_in _ _ c.in-Unmodelled.is refl

pub returns-in-Opaque : goal.returns-in-Opaque
returns-in-Opaque c = by_row (goal.at.returns-in-Opaque c).After-row_in _ _ c.in-Opaque.is refl

pub returns-in-Aload : goal.returns-in-Aload
returns-in-Aload c = by_row (goal.at.returns-in-Aload c).After-row_in _ _ c.in-Aload.is c.load_effect.ensures

pub returns-in-AloadFar : goal.returns-in-AloadFar
returns-in-AloadFar c = by_row (goal.at.returns-in-AloadFar c).After-row_in _ _ c.in-AloadFar.is c.far_effect.ensures

pub returns-in-AloadOf : goal.returns-in-AloadOf
returns-in-AloadOf c = by_row (goal.at.returns-in-AloadOf c).After-row_in _ _ c.in-AloadOf.is refl

pub returns-in-Copies : goal.returns-in-Copies
returns-in-Copies c = by_row (goal.at.returns-in-Copies c).After-row_in _ _ c.in-Copies.is refl

pub returns-in-Swap : goal.returns-in-Swap
returns-in-Swap c = by_row (goal.at.returns-in-Swap c).After-row_in _ _ c.in-Swap.is refl

pub returns-in-Keeps : goal.returns-in-Keeps
returns-in-Keeps c = by_row (goal.at.returns-in-Keeps c).After-row_in _ _ c.in-Keeps.is refl

pub returns-in-Gets : goal.returns-in-Gets
returns-in-Gets c = by_row (goal.at.returns-in-Gets c).After-row_in _ _ c.in-Gets.is c.get_effect.ensures

pub returns-in-Calls : goal.returns-in-Calls
returns-in-Calls c = by_row (goal.at.returns-in-Calls c).After-row_in _ _ c.in-Calls.is c.call_effect.ensures

pub returns-in-Puts : goal.returns-in-Puts
returns-in-Puts c = by_row (goal.at.returns-in-Puts c).After-row_in _ _ c.in-Puts.is c.put_effect.ensures

pub returns-in-Makes : goal.returns-in-Makes
returns-in-Makes c = by_row (goal.at.returns-in-Makes c).After-row_in _ _ c.in-Makes.is c.make_effect.ensures
