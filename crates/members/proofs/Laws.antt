-- A table that serves changes no lookup: in a run it finds what the whole run holds.
-- Assumes nothing.
use mathlib.Core.Path.{refl, ap, fun_ext}
use Rattle.index.proofs.Tables.{found-by}
use Rattle.effects.specs.Lookup.{known_by, lookup_in}
use Rattle.members.specs.Laws.{LooksAlike}
use Rattle.members.specs.Members.{lookup_by}
use Rattle.members.specs.declared.Source.TheVariants.{Run, Pool}

pub looks_alike : LooksAlike
unfolding lookup_by lookup_in
looks_alike Run bytes count table serves =
    fun_ext (λ kind. fun_ext (λ index. ap known_by (found-by bytes count table index kind serves)))
looks_alike Pool bytes count table serves = refl
