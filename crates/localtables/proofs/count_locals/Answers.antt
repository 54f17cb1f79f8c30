-- `localtables::count_locals` meets its contract.
-- Assumes nothing.
use mathlib.Core.Path.{◌∙◌, sym, ap}
use lib.ListN.{length}
use Rattle.localtables.proofs.count_locals.Goals as goal

pub count_attributes-requires : goal.count_attributes-requires
count_attributes-requires c = c.attributes_at.ensures.4

pub returns : goal.returns
returns c =
    let all = c.attributes_at.ensures in
    c.count_attributes.ensures all.0 all.1 all.2 ∙ ap length (sym all.3)
