-- `words::put_method_at` meets its contract. Three writers, one after the other, of the parts' texts.
-- Assumes nothing.
use native.Mathlib.Omega.{arith}
use Rattle.words.specs.Words.{method_text}
use Rattle.text.proofs.Writing.{written_then}
use Rattle.words.proofs.put_method_at.Goals as goal

pub returns : goal.returns
unfolding method_text
returns c =
    rw (← c.class_of.ensures, ← c.name_of.ensures)
    (written_then (omega arith)
    (written_then (omega arith) c.put_class_at-dot.ensures c.put_at-name.ensures)
    c.put_at.ensures)
