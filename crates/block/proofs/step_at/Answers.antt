-- `block::step_at` meets its contract. A case on how the effect was laid into the cells.
-- Assumes nothing.
use Prim.Native.Nat.{ℕ}
use native.Mathlib.Omega.{arith}
use mathlib.Core.Path.{◌≡◌, refl, ◌∙◌, sym, ap, ap₂}
use lib.ListN.{take}
use Rattle.jvms.specs.Stack.{key_at}
use Rattle.fixed.specs.Fixed.{key_length}
use Rattle.effects.specs.Lookup.{Lookup, lookup_in}
use Rattle.effects.specs.Rows.{rows_of}
use Rattle.walk.specs.Walk.{Effect, effect_by, fails, not_modelled}
use Rattle.instruction.specs.Code.{effect_from, bare}
use Rattle.instruction.proofs.Laws.{looks_alike}
use Rattle.block.specs.declared.Halt.TheVariants.{Stops}
use Rattle.std.proofs.lemmas.Result.{err_from_is_err_and}
use Rattle.block.proofs.Stepping as stepping
use Rattle.block.proofs.step_at.Goals as goal
use Rattle.block.proofs.step_at.Goals.{After-effect_of}

pub returns-then-code-pc : goal.returns-then-code-pc
returns-then-code-pc c =
    let a = c.args in
    stepping.past_end (rows_of a.model) (lookup_in a.members.now a.count) a.code.now a.fault a.pc a.stack.now
    (take a.height a.stack.now) c.if-code-pc.true

-- the table serves the run, so the effect is that of a lookup in the whole run
known :
    (c : After-effect_of) →
    let a = c.args in
    effect_from c.effect_of.result
    ≡ bare (effect_by (lookup_in a.members.now a.count) a.code.now a.pc (rows_of a.model (key_at a.code.now a.pc)))
known c =
    let a = c.args in
    let effect : Lookup → ℕ → Effect = λ look key. bare (effect_by look a.code.now a.pc (rows_of a.model key)) in
    c.effect_of.ensures
    ∙ ap₂ effect (looks_alike a.members.now a.count a.table.now c.requires.indexed) c.key_at-key.ensures

pub returns-in_default : goal.returns-in_default
returns-in_default c =
    let a = c.args in
    stepping.halts_at (rows_of a.model) (lookup_in a.members.now a.count) a.code.now a.fault a.pc a.stack.now
    (take a.height a.stack.now) (omega arith) (fails not_modelled)
    (ap effect_from (sym c.in_default.is) ∙ known (goal.at.returns-in_default c).After-effect_of) _ Stops
    (record { answers = refl; leaves = refl })

pub returns-in_err-next : goal.returns-in_err-next
returns-in_err-next c =
    let a = c.args in
    let told = err_from_is_err_and c.from_residual.result c.from_residual.ensures.1 in
    rw (told.1, told.2)
    (stepping.halts_at (rows_of a.model) (lookup_in a.members.now a.count) a.code.now a.fault a.pc a.stack.now
    (take a.height a.stack.now) (omega arith) _ (ap effect_from (sym c.in-Some.is) ∙ known (goal.at.returns-in_err-next c).After-effect_of) _ _
    c.in_err-next.ensures)

pub returns : goal.returns
returns c =
    let a = c.args in
    let size = c.size_by-size.ensures ∙ ap key_length c.key_at-key.ensures in
    stepping.lands_at (rows_of a.model) (lookup_in a.members.now a.count) a.code.now a.fault a.pc a.stack.now
    (take a.height a.stack.now) (omega arith) _ (ap effect_from (sym c.in-Some.is) ∙ known (goal.at.returns c).After-effect_of) _ _ _ _ size
    c.in_ok-next.ensures
    c.land.ensures
