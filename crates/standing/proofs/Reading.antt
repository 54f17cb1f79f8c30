-- From what reading a class file tells to the class file: where it is right, what came of it, and that the table which is left serves its
-- pool.
-- Rests on: the table of places (crates/classfile); the halves of a class file (Methods.antt).
-- Assumes nothing.
use Rattle.std.specs.Prelude.{Ok}
use Prim.Native.Nat.{ℕ, ◌≤◌}
use mathlib.Core.Path.{◌≡◌, ◌∙◌, ap, subst}
use mathlib.Core.List.{List}
use lib.ListN.{length}
use Rattle.basics.specs.Bytes.{u16_at, AreBytes}
use Rattle.format.specs.Format.{Reading, read_by}
use Rattle.format.proofs.Items.{was_read}
use Rattle.classformat.specs.Contents.{ClassFile}
use Rattle.classformat.specs.ClassFile.{class_format}
use Rattle.entries.specs.Entries.{Serves}
use Rattle.classfile.specs.Class.{class_place, class_told, start_table}
use Rattle.classfile.specs.declared.ClassPlace.{ClassPlace}
use Rattle.classfile.proofs.Whole.{start_serves}
use Rattle.classparts.specs.Right.{IsClass}
use Rattle.standing.proofs.Methods.{class_halves}

-- the table that is left leads to each entry of its pool
pub class_serves :
    (file before : List ℕ) (c : ClassFile) → IsClass file c → u16_at file 8 ≤ length before → Serves file (start_table file before) c.pool
class_serves file before c is room =
    let h = class_halves file c is in
    subst (λ (k : ClassFile). Serves file (start_table file before) k.pool) h.whole
    (start_serves file before h.start h.next room h.began)

pub class_read :
    (file : List ℕ) → AreBytes file → (r : Reading ClassFile) → read_by (class_format file) file 0 ≡ r → {place : ClassPlace} →
    class_told r ≡ Ok place → (c : ClassFile) × IsClass file c × (c.from ≡ place.from) × (length c.methods ≡ place.count)
class_read file are r is e =
    let w = was_read class_place r e in
    let from = ap (λ (p : ClassPlace). p.from) w.3 in
    let count = ap (λ (p : ClassPlace). p.count) w.3 in
    (w.0, record { bytes = are; end = w.1; reads = is ∙ w.2 }, from, count)
