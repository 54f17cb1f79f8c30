-- Class names as the messages print them (document 01, "Action and cause"): "`java/lang/String` and `java/lang/Object` shorten, names
-- starting with `[` stay, others get dots for slashes".
-- Assumes nothing.
use Rattle.std.specs.Prelude.{ℕ, Bool, List, [], ◌∷◌, eqb}
use Rattle.basics.specs.Ascii.{ascii}
use Rattle.basics.specs.Bytes.{byte_at}
use Rattle.basics.specs.Choice.{pick, same_list}

unfoldable pub dot_of : ℕ → ℕ
dot_of byte = pick (eqb byte 47) 46 byte

unfoldable pub dotted : List ℕ → List ℕ
dotted [] = []
dotted (x ∷ xs) = dot_of x ∷ dotted xs

abbrev pub starts_with : ℕ → List ℕ → Bool
starts_with byte name = eqb (byte_at name 0) byte

unfoldable pub class_name : List ℕ → List ℕ
class_name name =
    pick (same_list name (ascii "java/lang/String")) (ascii "String")
    (pick (same_list name (ascii "java/lang/Object")) (ascii "Object")
    (pick (starts_with 91 name) name (dotted name)))
