-- `names::put_param_at` meets its contract. One text after the other.
-- Assumes nothing.
use native.Mathlib.Omega.{arith}
use Rattle.text.proofs.Writing.{written_then}
use Rattle.names.proofs.put_param_at.Goals as goal

pub returns : goal.returns
returns c = written_then (omega arith) c.put_comma_at-next.ensures c.put_type_at.ensures
