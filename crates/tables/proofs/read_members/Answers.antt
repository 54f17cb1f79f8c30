-- `tables::read_members` meets its contract. A member further is one turn of the definition.
-- Assumes nothing.
use Rattle.std.specs.Prelude.{Err}
use Prim.Native.Nat.{◌+◌, ◌-◌}
use native.Mathlib.Omega.{arith}
use mathlib.Core.Path.{◌≡◌, ◌∙◌, sym}
use Rattle.std.proofs.lemmas.Grind.{common_steps}
use Rattle.tables.specs.Layout.{members_then, ended, run_by}
use Rattle.tables.proofs.Runs.{members_turn}
use Rattle.tables.proofs.read_members.Goals as goal

pub returns-in_err-member : goal.returns-in_err-member
returns-in_err-member c =
    let a = c.args in
    let l = c.loop in
    let e : run_by (members_then a.count 0 ended) a.bytes.now a.from ≡ Err c.in_err-member.field-0.0 =
    l.invariant.0 ∙ members_turn a.bytes.now (a.count - l.counter) (a.count - (l.counter + 1)) l.last l.at (omega arith)
    ∙ rw (sym c.in_err-member.ensures.0) in
    grind (arith, common_steps)

pub loop-preserved : goal.loop-preserved
loop-preserved c =
    let a = c.args in
    let l = c.loop in
    let within = c.in_ok-member.ensures.1 in (
      l.invariant.0
          ∙ members_turn a.bytes.now (a.count - l.counter) (a.count - (l.counter + 1)) l.last l.at (omega arith)
          ∙ rw (sym c.in_ok-member.ensures.0),
      omega arith,
      λ inside. omega arith,
    )
