-- `ffi::korsepal_walk` meets its contract: that of `walk_case`, in document 01's model.
-- Assumes nothing.
use Rattle.ffi.proofs.korsepal_walk.Goals as goal

pub returns : goal.returns
returns c =
    let all = c.walk_case.ensures in
    record { answers = all.answers; leaves = all.leaves }
