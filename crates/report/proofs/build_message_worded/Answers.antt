-- `report::build_message_worded` meets its contract. A wording that is named is reported in; else nothing is looked at.
-- Assumes nothing.
use mathlib.Core.Path.{refl, sym, ◌∙◌}
use Rattle.report.specs.Report.{report_worded, reported_worded}
use Rattle.report.proofs.build_message_worded.Goals as goal

pub returns : goal.returns
unfolding report_worded reported_worded
returns c =
    let told = sym c.wording_by.ensures ∙ c.in-Some.is in
    let all = c.build_message_in.ensures in
    record { answers = rw told all.answers; leaves = rw told all.leaves; clears = all.clears }

pub returns-in_default : goal.returns-in_default
unfolding report_worded reported_worded
returns-in_default c =
    let told = sym c.wording_by.ensures ∙ c.in_default.is in record { answers = rw told refl; leaves = rw told refl; clears = c.clear.ensures }
