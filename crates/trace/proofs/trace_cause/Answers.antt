-- `trace::trace_cause` meets its contract. By what the scan answers.
-- Assumes nothing.
use Rattle.std.specs.Prelude.{Result}
use Prim.Native.Nat.{ℕ}
use mathlib.Core.Path.{sym, ap, ◌∙◌}
use lib.ListN.{length}
use Rattle.trace.specs.Trace.{traced_by, traced}
use Rattle.trace.proofs.trace_cause.Goals as goal
use Rattle.leader.specs.declared.Scanned.{Scanned}

pub returns-in-Ok : goal.returns-in-Ok
unfolding traced
returns-in-Ok c =
    let a = c.args in
    let told = sym c.block_leader.ensures ∙ c.in-Ok.is in
    let room : ℕ = length a.stack.now in record {
      answers = c.trace_block.ensures.answers
          ∙ sym (ap (λ (s : Result Scanned Scanned). traced_by a.model a.code.now a.members.now a.count a.fault a.depth room s) told);
      leaves = c.trace_block.ensures.leaves;
    }

pub returns-in-Err : goal.returns-in-Err
unfolding traced
returns-in-Err c =
    let a = c.args in
    let told = sym c.block_leader.ensures ∙ c.in-Err.is in
    let room : ℕ = length a.stack.now in record { answers = sym (ap (λ (s : Result Scanned Scanned). traced_by a.model a.code.now a.members.now a.count a.fault a.depth room s) told); leaves = c.clear.ensures }
