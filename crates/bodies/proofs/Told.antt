-- What was read, by what the reader of a local table's entry tells.
-- Assumes nothing.
use Rattle.std.specs.Prelude.{Ok}
use Prim.Native.Nat.{ℕ}
use mathlib.Core.Path.{◌≡◌, ◌∙◌, ap}
use Rattle.format.specs.Format.{Reading, right}
use Rattle.format.proofs.Items.{was_read}
use Rattle.format.specs.Items.{run_of}
use Rattle.classformat.specs.Contents.{Local}
use Rattle.bodies.specs.Body.{record_of, record_told}
use Rattle.bodies.specs.declared.LocalPlace.{LocalPlace}

pub record_is :
    (l : Local) (end : ℕ) {place : LocalPlace} → record_told (right l end) ≡ Ok place → record_of l end ≡ place
record_is l end e = cc

pub record_ended : (r : Reading Local) {place : LocalPlace} → record_told r ≡ Ok place → run_of r ≡ Ok place.next
record_ended r e = let w = was_read record_of r e in ap run_of w.2 ∙ ap (λ (p : LocalPlace). Ok p.next) w.3
