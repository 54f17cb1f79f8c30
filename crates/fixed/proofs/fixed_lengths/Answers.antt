-- `fixed::fixed_lengths` meets its contract. The table that the rule computes is the constant: one test over all 256 entries.
-- Assumes nothing.
use mathlib.Core.Path.{refl}
use Rattle.fixed.specs.Fixed.{fixed_length}
use Rattle.jvms.specs.Format.{format_of}
use Rattle.basics.proofs.Table.{tabled_at}
use Rattle.fixed.proofs.fixed_lengths.Goals as goal

pub returns : goal.returns
unfolding fixed_length format_of
returns c = record { sized = refl; entries = tabled_at fixed_length 256 }
