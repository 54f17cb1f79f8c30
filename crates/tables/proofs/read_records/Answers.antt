-- `tables::read_records` meets its contract. A record further is one turn of the definition.
-- Assumes nothing.
use Rattle.std.specs.Prelude.{Err}
use Prim.Native.Nat.{◌+◌, ◌-◌}
use native.Mathlib.Omega.{arith}
use mathlib.Core.Path.{◌≡◌, ◌∙◌, sym}
use Rattle.std.proofs.lemmas.Grind.{common_steps}
use Rattle.tables.specs.Layout.{records_then, ended, run_by}
use Rattle.tables.proofs.Runs.{records_turn}
use Rattle.tables.proofs.read_records.Goals as goal

pub returns-in_err-place : goal.returns-in_err-place
returns-in_err-place c =
    let a = c.args in
    let l = c.loop in
    let e : run_by (records_then a.count ended) a.bytes.now a.from ≡ Err c.in_err-place.field-0.0 =
    l.invariant.0 ∙ records_turn a.bytes.now (a.count - l.counter) (a.count - (l.counter + 1)) l.at (omega arith)
    ∙ rw (sym c.in_err-place.ensures.0) in
    grind (arith, common_steps)

pub loop-preserved : goal.loop-preserved
loop-preserved c =
    let a = c.args in
    let l = c.loop in
    let within = c.in_ok-place.ensures.1 in (
      l.invariant.0
          ∙ records_turn a.bytes.now (a.count - l.counter) (a.count - (l.counter + 1)) l.at (omega arith)
          ∙ rw (sym c.in_ok-place.ensures.0),
      omega arith,
      λ inside. omega arith,
    )
