-- `localtables::find_local` meets its contract.
-- Assumes nothing.
use mathlib.Core.Path.{◌∙◌, sym, ap}
use mathlib.Core.List.{List}
use Rattle.classformat.specs.Contents.{Local}
use Rattle.localtables.specs.Locals.{first_local}
use Rattle.localtables.proofs.find_local.Goals as goal

pub returns : goal.returns
returns c =
    let a = c.args in
    let all = c.attributes_at.ensures in
    c.search_attributes.ensures all.0 all.1 all.2 ∙ ap (λ (ls : List Local). first_local ls a.slot a.load) (sym all.3)
