-- What a list of methods tells: an answer is told by its numbers, each method has eight, and what they say of a name or a descriptor is
-- where the file spells it. The statements are proved in proofs/ of this crate.
-- Assumes nothing.
use Rattle.std.specs.Prelude.{ℕ, ◌+◌, ◌*◌, ◌≤◌, ◌≡◌, length, Result}
use mathlib.Core.List.{List, Memᴰ}
use Rattle.format.specs.Format.{bytes_at}
use Rattle.classformat.specs.Contents.{entry_in, named, name_of, Method, ClassFile}
use Rattle.classformat.specs.declared.Entry.{Entry}
use Rattle.classparts.specs.Right.{IsClass}
use Rattle.methodlist.specs.List.{text_start, text_size, listed, numbered}
use Rattle.methodlist.specs.declared.ListError.{ListError}

abbrev pub NumberedInjective : Type 0
NumberedInjective = (one another : Result ℕ ListError) → numbered one ≡ numbered another → one ≡ another

-- eight numbers a method
abbrev pub EightEach : Type 0
EightEach = (entry : ℕ → Entry) (methods : List Method) → length (listed entry methods) ≡ 8 * length methods

-- the bytes of the file that an entry's place and length tell
abbrev pub text_of : List ℕ → Entry → List ℕ
text_of file entry = bytes_at file (text_start entry) (text_size entry)

pub record NamesSpelled : Type 0 where
  -- the number of a method's name leads to a name, whose bytes they are; and so does that of its descriptor
  pub name :
      (file : List ℕ) (c : ClassFile) → IsClass file c → (m : Method) → Memᴰ m c.methods →
      name_of file (entry_in c.pool m.name) ≡ named (text_of file (entry_in c.pool m.name))
  pub descriptor :
      (file : List ℕ) (c : ClassFile) → IsClass file c → (m : Method) → Memᴰ m c.methods →
      name_of file (entry_in c.pool m.descriptor) ≡ named (text_of file (entry_in c.pool m.descriptor))
  -- they lie in the file
  pub inside :
      (file : List ℕ) (c : ClassFile) → IsClass file c → (number : ℕ) →
      text_start (entry_in c.pool number) + text_size (entry_in c.pool number) ≤ length file
