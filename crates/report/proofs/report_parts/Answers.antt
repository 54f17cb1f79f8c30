-- `report::report_parts` meets its contract: that of `report_parts_in`, in the manner of a call that names nothing.
-- Assumes nothing.
use Rattle.report.proofs.report_parts.Goals as goal

pub returns : goal.returns
returns c =
    let all = rw c.default_manner.ensures at c.report_parts_in.ensures in
    record { delivers = all.delivers; clears = all.clears }
