-- `citing::put_cited_at` meets its contract.
-- Assumes nothing.
use Prim.Native.Nat.{ℕ}
use native.Mathlib.Omega.{arith}
use mathlib.Core.Path.{◌∙◌, sym, subst}
use mathlib.Core.List.{List}
use borrow.Author.Rules.{rules}
use Rattle.text.specs.Writing.{Written}
use Rattle.text.proofs.Writing.{written_none}
use Rattle.cases.specs.LaidOut.{members_bytes}
use Rattle.entries.specs.Entries.{entry_by}
use Rattle.classparts.specs.Parts.{member_by}
use Rattle.citing.proofs.Runs.{no_run, one_run}
use Rattle.citing.proofs.Sizes.{run-within}
use Rattle.citing.proofs.put_cited_at.Goals as goal

pub returns-in_default : goal.returns-in_default
returns-in_default c =
    let a = c.args in
    let is = sym c.find_member.ensures ∙ c.in_default.is in
    let writes : Written a.at (members_bytes (member_by a.file.now (entry_by a.file.now a.table.now) a.index)) a.out.now a.at a.out.now =
    subst (λ (t : List ℕ). Written a.at t a.out.now a.at a.out.now) (sym (no_run a.file.now a.table.now a.index is))
    (written_none a.out.now (search rules)) in record { writes = writes; few = run-within a.file.now a.table.now (λ i. (c.type_inv.file i).fits) a.index (omega (arith, c.ranges)) }

pub returns : goal.returns
returns c =
    let a = c.args in
    let is = sym c.find_member.ensures ∙ c.in-Some.is in
    let w = c.put_member_at in
    let writes : Written a.at (members_bytes (member_by a.file.now (entry_by a.file.now a.table.now) a.index)) a.out.now w.result w.new.out =
    subst (λ (t : List ℕ). Written a.at t a.out.now w.result w.new.out) (sym (one_run a.file.now a.table.now a.index is))
    (rw (← c.find_name-class_text.ensures, ← c.find_name-name_text.ensures, ← c.find_name-descriptor_text.ensures) w.ensures) in record { writes = writes; few = run-within a.file.now a.table.now (λ i. (c.type_inv.file i).fits) a.index (omega (arith, c.ranges)) }
