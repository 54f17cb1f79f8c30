-- `report::build_message` meets its contract: that of `build_message_in`, in the manner of a call that names nothing.
-- Assumes nothing.
use Rattle.report.proofs.build_message.Goals as goal

pub returns : goal.returns
returns c =
    let all = rw c.default_manner.ensures at c.build_message_in.ensures in
    record { answers = all.answers; leaves = all.leaves; clears = all.clears }
