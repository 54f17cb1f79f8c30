-- What a walk knows of a member, by where members are looked up: in a run by a table of it (crates/index/specs/Index.antt), or in a class
-- file by a table of its pool's places (crates/entries/specs/Entries.antt).
-- Assumes nothing.
use Rattle.std.specs.Prelude.{ℕ, ◌+◌, ◌^◌, ◌<◌, List, eqb, Option, Some, None}
use Rattle.basics.specs.Choice.{pick}
use Rattle.descriptor.specs.Readers.{parameters, return_slots, field_slots}
use Rattle.descriptor.specs.declared.Params.{Params}
use Rattle.index.specs.Index.{Indexed, found_by}
use Rattle.classformat.specs.Contents.{spelled}
use Rattle.entries.specs.Entries.{entry_by, names_by, resolved_by}
use Rattle.entries.specs.declared.Resolved.{Resolved}
use Rattle.effects.specs.Lookup.{Known, missing, known, Lookup, known_by, lookup_in}
use Rattle.members.specs.declared.Source.{Source}
use Rattle.members.specs.declared.Source.TheVariants.{Run, Pool}
use Rattle.members.specs.declared.Call.{Call}

-- ---- the lookup

-- by a table of a run of so many members
unfoldable pub lookup_by : List ℕ → ℕ → List ℕ → Lookup
lookup_by members count table kind index = known_by (found_by members count table index kind)

-- the descriptor of a member that resolved, where it is of the kind that is asked for
abbrev pub known_as : List ℕ → List ℕ → ℕ → Option Resolved → Known
known_as file table kind (Some member) =
    pick (eqb member.kind kind) (known (spelled (names_by file table member.descriptor))) missing
known_as file table kind None = missing

-- "The table handed to demand 2 holds each member that resolves fully" (document 02, request 3); its descriptor as the file spells it
unfoldable pub pool_lookup : List ℕ → List ℕ → Lookup
pool_lookup file table kind index = known_as file table kind (resolved_by (entry_by file table) index)

-- as the code looks it up
abbrev pub lookup_from : Source → List ℕ → ℕ → List ℕ → Lookup
lookup_from Run bytes count table = lookup_by bytes count table
lookup_from Pool bytes count table = pool_lookup bytes table

-- with no table of the run
abbrev pub lookup_of : Source → List ℕ → ℕ → List ℕ → Lookup
lookup_of Run bytes count table = lookup_in bytes count
lookup_of Pool bytes count table = pool_lookup bytes table

-- a table that changes no lookup; that of a pool is the lookup's own
abbrev pub Served : Source → List ℕ → ℕ → List ℕ → Type 0
Served Run bytes count table = Indexed bytes count table
Served Pool bytes count table = Unit {0}

-- ---- slots

-- of a field, as far as it is known
abbrev pub slots_known : Known → Option ℕ
slots_known missing = None
slots_known (known descriptor) = Some (field_slots descriptor)

-- of a call, where both its parameters and its return can be read
abbrev pub call_of : Option Params → Option ℕ → Option Call
call_of (Some p) (Some gives) = Some (record { args = p.slots; gives = gives })
call_of (Some p) None = None
call_of None result = None

abbrev pub signature_of : List ℕ → Option Call
signature_of descriptor = call_of (parameters descriptor) (return_slots descriptor)

abbrev pub call_known : Known → Option Call
call_known missing = None
call_known (known descriptor) = signature_of descriptor

-- one slot more than the arguments have can be counted
abbrev pub Few : Option Call → Type 0
Few (Some call) = call.args + 1 < 2 ^ 64
Few None = Unit {0}
