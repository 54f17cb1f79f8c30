-- `names::put_element_at` meets its contract. What remains of the output is lent, and comes back.
-- Assumes nothing.
use Rattle.names.specs.Names.{element_name}
use Rattle.text.proofs.Writing.{written_from}
use Rattle.names.proofs.put_element_at.Goals as goal

pub returns : goal.returns
returns c =
    let a = c.args in
    let p = c.put_element-n in
    written_from a.at c.min-from.result p.result c.saturating_add.result (element_name a.descriptor.now a.t) a.out.now
    p.new.out c.min-from.ensures c.saturating_add.ensures p.ensures
