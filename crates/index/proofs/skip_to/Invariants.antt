-- `index::skip_to` meets its contract. The invariant: what is skipped from here on leaves what it leaves from the start.
-- Assumes nothing.
use mathlib.Core.Path.{◌≡◌}
use Rattle.index.specs.Index.{skipped}
use Rattle.index.proofs.skip_to.Given as goal

abbrev pub invariant-loop-left : goal.invariant-loop-left
invariant-loop-left l =
    (skipped l.members l.bucket l.count l.above l.from ≡ skipped l.members l.bucket l.rest.left l.rest.last l.rest.at)
    × (l.rest.left ≡ l.left)
