-- The search over a lent run and the search over a case's bytes find the same name.
-- Assumes nothing.
use Rattle.std.specs.Prelude.{ℕ, ◌≤◌, List, ◌≡◌}
use Rattle.tables.specs.LocalRecord.{records_in}
use Rattle.search.specs.Search.{first_match}
use Rattle.records.specs.Run.{viewed_all, run_of}

-- of any bytes, where the run has room for as many records as there are at most
abbrev pub SearchesAgree : Type 0
SearchesAgree =
    (bytes : List ℕ) (count at room slot load : ℕ) → count ≤ room →
    first_match (viewed_all (run_of room (records_in bytes count at))) slot load ≡ first_match (records_in bytes count at) slot load
