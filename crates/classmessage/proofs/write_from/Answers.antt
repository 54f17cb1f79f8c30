-- `classmessage::write_from` meets its contract. The texts were measured.
-- Assumes nothing.
use native.Mathlib.Omega.{arith}
use Rattle.citing.proofs.Room.{measured}
use Rattle.classmessage.proofs.write_from.Goals as goal

pub write_within-requires-clause-fits : goal.write_within-requires-clause-fits
write_within-requires-clause-fits c = measured c.lay_texts-laid.ensures.whole c.if-laid-le-USUAL.true (omega arith)
