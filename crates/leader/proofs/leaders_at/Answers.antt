-- `leader::leaders_at` meets its contract. One arm a kind: its targets, then the next index. The entries of a switch are counted from its length.
-- Assumes nothing.
use Prim.Native.Nat.{◌+◌, ◌-◌, ◌/◌, ◌^◌, ◌<◌}
use native.Mathlib.Omega.{arith}
use mathlib.Core.Path.{◌≡◌, refl, sym, ◌∙◌}
use Rattle.basics.specs.Bytes.{byte_at}
use Rattle.bytecode.specs.Length.{table_entries, lookup_pairs, table_bytes, lookup_bytes}
use Rattle.greatest.specs.Greatest.{greatest}
use Rattle.branch.specs.Branch.{branch_of}
use Rattle.branch.specs.declared.Branch.TheVariants.{Near, Far, Table, Lookup, Ends}
use Rattle.leader.proofs.Greatest.{aimed_at}
use Rattle.leader.proofs.OfBranch.{table-bytes, lookup-bytes, plain, up_to_next}
use Rattle.leader.proofs.leaders_at.Goals as goal
use Rattle.leader.proofs.leaders_at.Goals.{In-Lookup, In-Table}

-- a switch's bytes, counted from its kind
table-size :
    (c : In-Table) →
    c.args.next ≡ c.args.pc + table_bytes c.args.code.now c.args.pc
table-size c =
    let a = c.args in
    let e : branch_of (byte_at a.code.now a.pc) ≡ Table = sym c.branch_of-kind.ensures ∙ c.in-Table.is in
    let byte : byte_at a.code.now a.pc < 256 = omega (arith, c.shared_slice_known-2-1.given a.pc) in
    omega (arith, table-bytes a.code.now a.pc byte e)

lookup-size :
    (c : In-Lookup) →
    c.args.next ≡ c.args.pc + lookup_bytes c.args.code.now c.args.pc
lookup-size c =
    let a = c.args in
    let e : branch_of (byte_at a.code.now a.pc) ≡ Lookup = sym c.branch_of-kind.ensures ∙ c.in-Lookup.is in
    let byte : byte_at a.code.now a.pc < 256 = omega (arith, c.shared_slice_known-2-1.given a.pc) in
    omega (arith, lookup-bytes a.code.now a.pc byte e)

pub overflow_sub-count-in-Table : goal.overflow_sub-count-in-Table
unfolding table_bytes
overflow_sub-count-in-Table c = omega (arith, table-size (goal.at.overflow_sub-count-in-Table c).In-Table)

pub switch_targets-requires : goal.switch_targets-requires
unfolding table_bytes
switch_targets-requires c = omega (arith, table-size (goal.at.switch_targets-requires c).In-Table)

pub overflow_sub-count-in-Lookup-2 : goal.overflow_sub-count-in-Lookup-2
unfolding lookup_bytes
overflow_sub-count-in-Lookup-2 c = omega (arith, lookup-size (goal.at.overflow_sub-count-in-Lookup-2 c).In-Lookup)

pub switch_targets-requires-in-Lookup : goal.switch_targets-requires-in-Lookup
unfolding lookup_bytes
switch_targets-requires-in-Lookup c = omega (arith, lookup-size (goal.at.switch_targets-requires-in-Lookup c).In-Lookup)

pub returns-in-Near : goal.returns-in-Near
returns-in-Near c =
    let a = c.args in
    let e : branch_of (byte_at a.code.now a.pc) ≡ Near = sym c.branch_of-kind.ensures ∙ c.in-Near.is in
    up_to_next a.code.now a.pc a.next a.fault a.best Near c.aim.result c.raise.result e refl
    (aimed_at a.fault a.best (2 ^ 15) a.pc _ _ _ c.aim.ensures c.read_i16.ensures.0)
    c.raise.ensures

pub returns-in-Far : goal.returns-in-Far
returns-in-Far c =
    let a = c.args in
    let e : branch_of (byte_at a.code.now a.pc) ≡ Far = sym c.branch_of-kind.ensures ∙ c.in-Far.is in
    up_to_next a.code.now a.pc a.next a.fault a.best Far c.aim-in-Far.result c.raise-in-Far.result e refl
    (aimed_at a.fault a.best (2 ^ 31) a.pc _ _ _ c.aim-in-Far.ensures c.read_i32.ensures.0)
    c.raise-in-Far.ensures

pub returns-in-Table : goal.returns-in-Table
unfolding table_bytes
returns-in-Table c =
    let a = c.args in
    let e : branch_of (byte_at a.code.now a.pc) ≡ Table = sym c.branch_of-kind.ensures ∙ c.in-Table.is in
    let counted : (a.next - a.pc - 13) / 4 ≡ table_entries a.code.now a.pc = omega (arith, table-size (goal.at.returns-in-Table c).In-Table) in
    up_to_next a.code.now a.pc a.next a.fault a.best Table c.switch_targets.result c.raise-in-Table.result e refl
    (rw counted at c.switch_targets.ensures)
    c.raise-in-Table.ensures

pub returns-in-Lookup : goal.returns-in-Lookup
unfolding lookup_bytes
returns-in-Lookup c =
    let a = c.args in
    let e : branch_of (byte_at a.code.now a.pc) ≡ Lookup = sym c.branch_of-kind.ensures ∙ c.in-Lookup.is in
    let counted : (a.next - a.pc - 9) / 8 ≡ lookup_pairs a.code.now a.pc = omega (arith, lookup-size (goal.at.returns-in-Lookup c).In-Lookup) in
    up_to_next a.code.now a.pc a.next a.fault a.best Lookup c.switch_targets-in-Lookup.result c.raise-in-Lookup.result e refl
    (rw counted at c.switch_targets-in-Lookup.ensures)
    c.raise-in-Lookup.ensures

pub returns-in-Ends : goal.returns-in-Ends
unfolding greatest
returns-in-Ends c =
    let a = c.args in
    let e : branch_of (byte_at a.code.now a.pc) ≡ Ends = sym c.branch_of-kind.ensures ∙ c.in-Ends.is in
    up_to_next a.code.now a.pc a.next a.fault a.best Ends a.best c.raise-in-Ends.result e refl (omega arith) c.raise-in-Ends.ensures

pub returns-in-Plain : goal.returns-in-Plain
returns-in-Plain c =
    let a = c.args in
    plain a.code.now a.pc a.next a.fault a.best (sym c.branch_of-kind.ensures ∙ c.in-Plain.is)
