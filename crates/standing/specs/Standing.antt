-- What came of a class file stands where the readers of one method look for it: the method behind so many others, and the tables of its
-- Code behind its instructions. The statements are proved in proofs/ of this crate.
-- Assumes nothing.
use Rattle.std.specs.Prelude.{ℕ, zero, suc, ◌+◌, ◌≡◌, List, [], ◌∷◌, length}
use Rattle.format.specs.Format.{right, read_by}
use Rattle.classformat.specs.Contents.{entry_in, Name, name_of, Code, Method, ClassFile}
use Rattle.classformat.specs.ClassFile.{code_tables_format, method_format}
use Rattle.methods.specs.Method.{method_behind}
use Rattle.classparts.specs.Right.{IsClass, HasCode}

-- the names of a class file
abbrev pub names_in : List ℕ → ClassFile → ℕ → Name
names_in file c index = name_of file (entry_in c.pool index)

-- "a method by its place in the methods list, from 0"
abbrev pub Placed : List Method → ℕ → Method → Type 0
Placed [] place m = ⊥
Placed (n ∷ more) zero m = m ≡ n
Placed (n ∷ more) (suc place) m = Placed more place m

pub record MethodsStand : Type 0 where
  pub methods :
      (file : List ℕ) (c : ClassFile) → IsClass file c → (place : ℕ) (m : Method) → Placed c.methods place m →
      (end : ℕ) × (read_by (method_behind place (method_format (names_in file c) (length file))) file c.from ≡ right m end)
  pub tables :
      (file : List ℕ) (c : ClassFile) → IsClass file c → (m : Method) (code : Code) → HasCode c m code →
      (end : ℕ) × (read_by (code_tables_format (names_in file c) code.stop) file (code.start + code.size) ≡ right code.tables end)
