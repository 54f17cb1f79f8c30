-- `names::base_row` meets its contract. One case an entry of the table.
-- Assumes nothing.
use mathlib.Core.Path.{refl}
use lib.Dec.{lit≤}
use Rattle.names.specs.Names.{base_names}
use Rattle.names.proofs.Eight.{eight}
use Rattle.names.proofs.base_row.Goals as goal

pub returns : goal.returns
unfolding base_names
returns c =
    eight c.args.k c.requires
    (λ e. rw e (refl, lit≤ tt, refl))
    (λ e. rw e (refl, lit≤ tt, refl))
    (λ e. rw e (refl, lit≤ tt, refl))
    (λ e. rw e (refl, lit≤ tt, refl))
    (λ e. rw e (refl, lit≤ tt, refl))
    (λ e. rw e (refl, lit≤ tt, refl))
    (λ e. rw e (refl, lit≤ tt, refl))
    (λ e. rw e (refl, lit≤ tt, refl))
