-- The fault of an instruction of a class file, decoded by the member that it cites, alone: one is enough (crates/single/specs/Single.antt).
-- Assumes nothing.
use Rattle.std.specs.Prelude.{ℕ, ◌+◌, List, length, Option}
use Rattle.basics.specs.Bytes.{u16_at}
use Rattle.cases.specs.LaidOut.{Member, members_bytes}
use Rattle.entries.specs.Entries.{entry_by}
use Rattle.fault.specs.Decoding.{decoded}
use Rattle.fault.specs.declared.Fault.{Fault}
use Rattle.classparts.specs.Parts.{member_by}

-- by members that are laid out
abbrev pub decoded_by : List Member → List ℕ → ℕ → Option Fault
decoded_by members code fault = decoded code (members_bytes members) (length members) fault

-- by the one that the instruction cites, found in a class file by a table of its pool's places
abbrev pub decoded_in : List ℕ → List ℕ → List ℕ → ℕ → Option Fault
decoded_in file table code fault = decoded_by (member_by file (entry_by file table) (u16_at code (fault + 1))) code fault
