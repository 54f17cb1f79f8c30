-- `judging::judge_method` meets its contract. Invariant: what is judged from here, behind the types so far, is the whole.
-- Assumes nothing.
use Rattle.std.specs.Prelude.{Some, None, Ok, Err}
use mathlib.Core.Path.{◌∙◌, sym, ap}
use Rattle.std.proofs.Common.{rules}
use borrow.Author.Tests.{eq-eqb, ne_eqb}
use Rattle.judging.proofs.Judging.{start, here, more}
use Rattle.judging.proofs.judge_method.Goals as goal

pub loop-t-init : goal.loop-t-init
loop-t-init c = start _ c.if-text-ne40.false

pub returns-in_err-t : goal.returns-in_err-t
returns-in_err-t c = let e = here _ _ _ c.loop-t.invariant (Err c.in_err-t.field-0.0) (sym c.get_next.ensures ∙ c.in_err-t.was) in search rules

pub returns-then-t-eq-VOID : goal.returns-then-t-eq-VOID
returns-then-t-eq-VOID c =
    rw (eq-eqb _ _ c.if-t-eq-VOID.true) at (here _ _ _ c.loop-t.invariant (Ok (Some (_, _)))
    (sym c.get_next.ensures ∙ c.in_ok-t.was ∙ ap Ok c.in-Some.is))

pub loop-t-preserved : goal.loop-t-preserved
loop-t-preserved c =
    more _ _ _ c.loop-t.invariant _ _ (sym c.get_next.ensures ∙ c.in_ok-t.was ∙ ap Ok c.in-Some.is) (ne_eqb _ _ c.if-t-eq-VOID.false)

pub returns : goal.returns
returns c =
    c.judge_return.ensures
    ∙ here _ _ _ c.loop-t.invariant (Ok None) (sym c.get_next.ensures ∙ c.in_ok-t.was ∙ ap Ok c.in_default.is)
