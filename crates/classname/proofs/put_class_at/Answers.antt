-- `classname::put_class_at` meets its contract. What remains of the output is lent, and comes back.
-- Assumes nothing.
use Rattle.classname.specs.ClassName.{class_name}
use Rattle.text.proofs.Writing.{written_from}
use Rattle.classname.proofs.put_class_at.Goals as goal

pub returns : goal.returns
returns c =
    let a = c.args in
    let p = c.put_class_name-n in
    written_from a.at c.min-from.result p.result c.saturating_add.result (class_name a.name.now) a.out.now p.new.out
    c.min-from.ensures c.saturating_add.ensures p.ensures
