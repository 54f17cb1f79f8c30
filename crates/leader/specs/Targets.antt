-- The leaders that one instruction gives (document 01, "Leaders").
-- Assumes nothing.
use Rattle.std.specs.Prelude.{ℕ, zero, suc, ◌+◌, ◌^◌, List, [], ◌∷◌, ◌++◌}
use Rattle.basics.specs.Bytes.{byte_at}
use Rattle.bytecode.specs.Length.{operands_at, table_entries, lookup_pairs}
use Rattle.reads.specs.Signed.{i16_at, i32_at}
use Rattle.branch.specs.Branch.{branch_of}
use Rattle.greatest.specs.Greatest.{target}
use Rattle.branch.specs.declared.Branch.{Branch}
use Rattle.branch.specs.declared.Branch.TheVariants.{Near, Far, Table, Lookup, Ends, Plain}

-- the targets of count 32-bit offsets from an index on, step bytes from each to the next
unfoldable pub entry_targets : List ℕ → ℕ → ℕ → ℕ → ℕ → List ℕ
entry_targets code pc step zero at = []
entry_targets code pc step (suc count) at = target (2 ^ 31) (pc + i32_at code at) ++ entry_targets code pc step count (at + step)

-- default, then the entries, whose first offset stands 12 bytes behind it
unfoldable pub switch_targets : List ℕ → ℕ → ℕ → ℕ → List ℕ
switch_targets code pc step count =
    target (2 ^ 31) (pc + i32_at code (operands_at pc)) ++ entry_targets code pc step count (operands_at pc + 12)

-- the entries of a tableswitch have 4 bytes each, the pairs of a lookupswitch 8, the offset behind the match
abbrev pub targets_by : Branch → List ℕ → ℕ → List ℕ
targets_by Near code pc = target (2 ^ 15) (pc + i16_at code (pc + 1))
targets_by Far code pc = target (2 ^ 31) (pc + i32_at code (pc + 1))
targets_by Table code pc = switch_targets code pc 4 (table_entries code pc)
targets_by Lookup code pc = switch_targets code pc 8 (lookup_pairs code pc)
targets_by Ends code pc = []
targets_by Plain code pc = []

abbrev pub after_by : Branch → ℕ → List ℕ
after_by Near next = next ∷ []
after_by Far next = next ∷ []
after_by Table next = next ∷ []
after_by Lookup next = next ∷ []
after_by Ends next = next ∷ []
after_by Plain next = []

-- the targets of the instruction at pc
unfoldable pub targets_at : List ℕ → ℕ → List ℕ
targets_at code pc = targets_by (branch_of (byte_at code pc)) code pc

-- the targets and the index after, of the instruction at pc that ends at next
unfoldable pub leaders_at : List ℕ → ℕ → ℕ → List ℕ
leaders_at code pc next = targets_by (branch_of (byte_at code pc)) code pc ++ after_by (branch_of (byte_at code pc)) next
