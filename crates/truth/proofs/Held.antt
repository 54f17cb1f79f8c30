-- Slots that all say the same.
-- Assumes nothing.
use Prim.Native.Nat.{ℕ, zero, suc}
use lib.ListN.{replicate}
use Rattle.basics.specs.Each.{none, one}
use Rattle.jvms.specs.Machine.{run}
use Rattle.truth.specs.Relation.{Held}

-- of n values from the k-th on
pub held_run :
    {A Val : Type 0} {Says : A → Val → Type 0} (n k : ℕ) (a : A) (f : ℕ → Val) → ((i : ℕ) → Says a (f i)) →
    Held Says (replicate n a) (run n k f)
held_run zero k a f r = none
held_run (suc n) k a f r = one (r k) (held_run n (suc k) a f r)
