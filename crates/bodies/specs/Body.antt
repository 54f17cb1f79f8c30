-- What the readers of a local table's entry and of a Code tell.
-- Assumes nothing.
use Rattle.std.specs.Prelude.{ℕ, Result}
use Rattle.format.specs.Format.{Reading}
use Rattle.format.specs.Items.{told_by}
use Rattle.classformat.specs.Contents.{Local, Code}
use Rattle.bodies.specs.declared.CodePlace.{CodePlace}
use Rattle.bodies.specs.declared.LocalPlace.{LocalPlace}

-- an entry of a local table, and where it ends
abbrev pub record_of : Local → ℕ → LocalPlace
record_of l end = record { start = l.start; size = l.size; name = l.name; slot = l.slot; next = end }

abbrev pub record_told : Reading Local → Result LocalPlace ℕ
record_told r = told_by record_of r

-- where its instructions lie, and where it ends
abbrev pub place_of : Code → CodePlace
place_of code = record { start = code.start; size = code.size; stop = code.stop }

abbrev pub code_told : Reading Code → Result (CodePlace × ℕ) ℕ
code_told r = told_by (λ code end. (place_of code, end)) r
