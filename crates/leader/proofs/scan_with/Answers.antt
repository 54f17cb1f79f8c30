-- `leader::scan_with` meets its contract. The loop's invariant: what the scan answers from here is what it answers at first.
-- Assumes nothing.
use Rattle.std.specs.Prelude.{Ok}
use Prim.Native.Nat.{◌-◌, ◌≤◌}
use native.Mathlib.Omega.{arith}
use mathlib.Core.List.{[], ◌∷◌}
use mathlib.Core.Path.{◌≡◌, ◌∙◌, sym}
use lib.ListN.{length}
use Rattle.bytecode.specs.Length.{length_of}
use Rattle.bytecode.specs.Rule.{length_documented}
use Rattle.bytecode.proofs.Laws.{Given, given, bytes_positive, by_fixed_lengths}
use Rattle.leader.proofs.Greatest.{greatest_one}
use Rattle.leader.proofs.Scanning.{at_first, one_turn, stops, ends}
use Rattle.leader.proofs.scan_with.Goals as goal
use Rattle.leader.proofs.scan_with.Goals.{After-length_by, In-Ok}

pub loop-pc-init : goal.loop-pc-init
loop-pc-init c =
    let a = c.args in (
      at_first length_of a.code.now a.fault (a.extra ∷ []) c.raise-best.result
          (omega (arith, c.raise-best.ensures, greatest_one a.fault a.extra)),
      omega arith,
      omega arith,
    )

-- measured by the table, an instruction has the rule's length
measures :
    (c : After-length_by) →
    length_of c.args.code.now c.loop-pc.pc
    ≡ c.length_by.result
measures c =
    let pc = c.loop-pc.pc in
    sym
    (c.length_by.ensures
    ∙ by_fixed_lengths _ c.args.code.now pc c.fixed_lengths-lengths.ensures
    (c.shared_slice_known-1.given pc).fits)

pub returns-in_default : goal.returns-in_default
returns-in_default c =
    let l = c.loop-pc in
    let a = c.args in
    stops length_of a.code.now a.fault l.best l.count l.pc (omega arith) c.loop-pc-test.true
    (λ n e. c.in_default.not-Ok n (sym (measures (goal.at.returns-in_default c).After-length_by) ∙ e))
    ∙ l.invariant.0

-- the instruction of a turn has a length
measured :
    (c : In-Ok) →
    length_of c.args.code.now c.loop-pc.pc
    ≡ Ok c.in-Ok.bytes
measured c =
    let pc = c.loop-pc.pc in
    sym
    (c.length_by.ensures
    ∙ by_fixed_lengths _ c.args.code.now pc c.fixed_lengths-lengths.ensures
    (c.shared_slice_known-1.given pc).fits)
    ∙ c.in-Ok.is

size :
    (c : In-Ok) →
    Given c.args.code.now c.loop-pc.pc
    c.in-Ok.bytes
    × (1 ≤ c.in-Ok.bytes)
size c =
    let code = c.args.code.now in
    let pc = c.loop-pc.pc in
    let is = given code pc c.in-Ok.bytes (length_documented code pc c.in-Ok.bytes (measured c)) in
    (is, omega (arith, is.bytes, bytes_positive code pc))

pub overflow_add-pc : goal.overflow_add-pc
overflow_add-pc c = omega (arith, size (goal.at.overflow_add-pc c).In-Ok)

pub leaders_at-best-requires : goal.leaders_at-best-requires
leaders_at-best-requires c = omega (arith, size (goal.at.leaders_at-best-requires c).In-Ok)

pub overflow_add-count : goal.overflow_add-count
overflow_add-count c = omega arith

pub overflow_add-pc-in-loop-pc : goal.overflow_add-pc-in-loop-pc
overflow_add-pc-in-loop-pc c = omega (arith, size (goal.at.overflow_add-pc-in-loop-pc c).In-Ok)

pub loop-pc-smaller : goal.loop-pc-smaller
loop-pc-smaller c = omega (arith, size (goal.at.loop-pc-smaller c).In-Ok)

pub loop-pc-preserved : goal.loop-pc-preserved
loop-pc-preserved c =
    let l = c.loop-pc in
    let a = c.args in (
      one_turn length_of a.code.now a.fault l.best l.count l.pc (omega arith)
          c.loop-pc-test.true c.in-Ok.bytes c.leaders_at-best.result (measured (goal.at.loop-pc-preserved c).In-Ok) c.leaders_at-best.ensures
          ∙ l.invariant.0,
      omega (arith, size (goal.at.loop-pc-preserved c).In-Ok),
      omega (arith, size (goal.at.loop-pc-preserved c).In-Ok),
    )

pub returns : goal.returns
returns c =
    let l = c.loop-pc in
    let a = c.args in
    ends length_of a.code.now a.fault l.best l.count l.pc (length a.code.now - l.count) c.loop-pc-test.false
    ∙ l.invariant.0
