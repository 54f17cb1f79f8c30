-- What the readers of a class file tell, the table that they leave, and the format by that table.
-- Assumes nothing.
use Rattle.std.specs.Prelude.{ℕ, Bool, List, eqb, leb, ltb, length, Result}
use Rattle.basics.specs.Bytes.{u16_at, u32_at}
use Rattle.basics.specs.Choice.{pick, both}
use Rattle.format.specs.Format.{Format, done, and_then, Reading}
use Rattle.format.specs.Items.{told_by}
use Rattle.classformat.specs.Contents.{Methods, ClassFile}
use Rattle.classformat.specs.ClassFile.{Start, start_format, rest_format, class_of}
use Rattle.entries.specs.Entries.{names_by}
use Rattle.pool.specs.Pool.{places_in, placed}
use Rattle.classfile.specs.declared.StartPlace.{StartPlace}
use Rattle.classfile.specs.declared.MethodsPlace.{MethodsPlace}
use Rattle.classfile.specs.declared.ClassPlace.{ClassPlace}

abbrev pub start_place : Start → ℕ → StartPlace
start_place s end = record { major = s.major; next = end }

abbrev pub start_told : Reading Start → Result StartPlace ℕ
start_told r = told_by start_place r

abbrev pub methods_place : Methods → ℕ → MethodsPlace
methods_place m end = record { from = m.from; count = length m.methods }

abbrev pub methods_told : Reading Methods → Result MethodsPlace ℕ
methods_told r = told_by methods_place r

abbrev pub class_place : ClassFile → ℕ → ClassPlace
class_place c end = record { major = c.major; from = c.from; count = length c.methods }

abbrev pub class_told : Reading ClassFile → Result ClassPlace ℕ
class_told r = told_by class_place r

-- ---- the table of the pool's places

-- the pool is begun
abbrev pub reaches_pool : List ℕ → Bool
reaches_pool file = both (leb 10 (length file)) (both (eqb (u32_at file 0) 0xcafebabe) (ltb 0 (u16_at file 8)))

unfoldable pub start_table : List ℕ → List ℕ → List ℕ
start_table file before = pick (reaches_pool file) (placed (length before) (places_in file (u16_at file 8))) before

-- the format by the names that a table leads to
unfoldable pub class_by : List ℕ → List ℕ → Format ClassFile
class_by file table =
    and_then (start_format (length file)) (λ start.
    and_then (rest_format (names_by file table) (length file)) (λ rest. done (class_of start rest)))
