-- `branch::branch_of` meets its contract. Each arm and each gap between arms is one computed test.
-- Assumes nothing.
use native.Mathlib.Omega.{arith}
use mathlib.Core.List.{[], ◌∷◌}
use Rattle.branch.specs.Branch.{branch_of}
use Rattle.branch.specs.declared.Branch.TheVariants.{Near, Far, Ends, Plain}
use Rattle.branch.proofs.OfOpcode.{all_of, all_unkeyed}
use Rattle.branch.proofs.branch_of.Goals as goal

pub returns-in-170 : goal.returns-in-170
unfolding branch_of
returns-in-170 c = rw c.in-170.is

pub returns-in-171 : goal.returns-in-171
unfolding branch_of
returns-in-171 c = rw c.in-171.is

pub returns-in-169 : goal.returns-in-169
unfolding branch_of
returns-in-169 c = rw c.in-169.is

pub returns-in-191 : goal.returns-in-191
unfolding branch_of
returns-in-191 c = rw c.in-191.is

pub returns-in-153-to-168 : goal.returns-in-153-to-168
unfolding branch_of
returns-in-153-to-168 c = all_of Near 153 16 tt c.args.op (omega arith) (omega arith)

pub returns-in-172-to-177 : goal.returns-in-172-to-177
unfolding branch_of
returns-in-172-to-177 c = all_of Ends 172 6 tt c.args.op (omega arith) (omega arith)

pub returns-in-198-to-199 : goal.returns-in-198-to-199
unfolding branch_of
returns-in-198-to-199 c = all_of Near 198 2 tt c.args.op (omega arith) (omega arith)

pub returns-in-200-to-201 : goal.returns-in-200-to-201
unfolding branch_of
returns-in-200-to-201 c = all_of Far 200 2 tt c.args.op (omega arith) (omega arith)

pub returns-in_default : goal.returns-in_default
unfolding branch_of
returns-in_default c = all_of Plain 0 153 tt c.args.op (omega arith) (omega arith)

pub returns-in_default-2 : goal.returns-in_default-2
unfolding branch_of
returns-in_default-2 c =
    all_unkeyed Plain ((191 ∷ []) ∷ []) 178 20 tt c.args.op (omega arith) (omega arith)
    (tt, omega arith)

pub returns-in_default-3 : goal.returns-in_default-3
unfolding branch_of
returns-in_default-3 c = all_of Plain 202 54 tt c.args.op (omega arith) (omega arith)
