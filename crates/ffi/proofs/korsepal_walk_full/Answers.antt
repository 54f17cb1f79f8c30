-- `ffi::korsepal_walk_full` meets its contract: that of `walk_case`, in the full model.
-- Assumes nothing.
use Rattle.ffi.proofs.korsepal_walk_full.Goals as goal

pub returns : goal.returns
returns c =
    let all = c.walk_case.ensures in
    record { answers = all.answers; leaves = all.leaves }
