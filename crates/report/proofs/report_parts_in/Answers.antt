-- `report::report_parts_in` meets its contract. By what the fault decodes to, then by its trace.
-- Assumes nothing.
use mathlib.Core.Path.{sym, ◌∙◌}
use lib.ListN.{length}
use Rattle.report.specs.Report.{parts_by}
use Rattle.report.proofs.Reporting as reporting
use Rattle.report.proofs.report_parts_in.Goals as goal

pub returns-in_default : goal.returns-in_default
returns-in_default c =
    let a = c.args in
    let p = parts_by a.flags a.at a.code.now a.signature.now a.members.now a.member_count
    a.records.now a.record_count in
    let told =
    reporting.is_silent a.manner p (length a.stack.now) a.out.now
    (sym c.decode_fault.ensures ∙ c.in_default.is) in record { delivers = told; clears = c.clear.ensures }

pub returns-in-Err : goal.returns-in-Err
returns-in-Err c =
    let a = c.args in
    let p = parts_by a.flags a.at a.code.now a.signature.now a.members.now a.member_count
    a.records.now a.record_count in
    let told =
    reporting.is_roomless a.manner p (length a.stack.now) a.out.now _ _ _
    (sym c.decode_fault.ensures ∙ c.in-Some.is)
    (sym c.trace_cause.ensures.answers ∙ c.in-Err.is) in record { delivers = told; clears = c.trace_cause.ensures.leaves }

pub returns-in-Ok : goal.returns-in-Ok
returns-in-Ok c =
    let a = c.args in
    let p = parts_by a.flags a.at a.code.now a.signature.now a.members.now a.member_count
    a.records.now a.record_count in
    let told =
    reporting.is_said a.manner p (length a.stack.now) a.out.now _ _ _ _ _
    (sym c.decode_fault.ensures ∙ c.in-Some.is)
    (sym c.trace_cause.ensures.answers ∙ c.in-Ok.is) _
    c.is_instance-instance.ensures _ _
    c.write_message.ensures in record { delivers = told; clears = c.trace_cause.ensures.leaves }
