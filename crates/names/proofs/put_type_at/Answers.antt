-- `names::put_type_at` meets its contract. One text after the other.
-- Assumes nothing.
use native.Mathlib.Omega.{arith}
use Rattle.names.specs.Names.{type_name}
use Rattle.text.proofs.Writing.{written_then}
use Rattle.names.proofs.put_type_at.Goals as goal

pub returns : goal.returns
unfolding type_name
returns c = written_then (omega arith) c.put_element_at-next.ensures c.put_brackets_at.ensures
