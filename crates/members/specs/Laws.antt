-- A table that serves changes no lookup. Proved in proofs/Laws.antt.
-- Assumes nothing.
use Rattle.std.specs.Prelude.{ℕ, ◌≡◌, List}
use Rattle.members.specs.Members.{lookup_from, lookup_of, Served}
use Rattle.members.specs.declared.Source.{Source}

abbrev pub LooksAlike : Type 0
LooksAlike =
    (source : Source) (bytes : List ℕ) (count : ℕ) (table : List ℕ) → Served source bytes count table →
    lookup_from source bytes count table ≡ lookup_of source bytes count table
