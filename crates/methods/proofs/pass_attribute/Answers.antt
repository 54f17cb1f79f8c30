-- `methods::pass_attribute` meets its contract.
-- Assumes nothing.
use Rattle.std.specs.Prelude.{Ok, Option}
use mathlib.Core.Path.{◌∙◌, sym, ap}
use Rattle.format.proofs.Items.{passed_on, told}
use Rattle.classformat.specs.ClassFile.{passed_over}
use Rattle.attributes.proofs.Passing.{passed_right, passed_wrong}
use Rattle.bodies.specs.declared.CodePlace.{CodePlace}
use Rattle.methods.specs.Method.{body_told}
use Rattle.methods.proofs.pass_attribute.Goals as goal

pub returns : goal.returns
returns c =
    let a = c.args in
    λ before is.
    ap (λ (place : Option CodePlace). Ok (place, c.in_ok-next.next)) (sym is)
    ∙ told body_told (passed_over a.limit before) (passed_right before (sym c.pass_over.ensures ∙ c.in_ok-next.was))

pub returns-in_err-next : goal.returns-in_err-next
returns-in_err-next c =
    let a = c.args in
    λ before is. passed_on c.from_residual.ensures.1 ∙ told body_told (passed_over a.limit before) (passed_wrong before (sym c.pass_over.ensures ∙ c.in_err-next.was))
