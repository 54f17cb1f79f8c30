-- What holds of the parts of every class file's methods: the members and the local records are right, each member resolves, each name
-- leads to a text that was judged, a table of places serves as well as the pool, and a case can hold the parts unless one of four things
-- is too large. The statements are proved in proofs/ of this crate.
-- Assumes nothing.
use Rattle.std.specs.Prelude.{ℕ, ◌+◌, ◌≤◌, ◌≡◌, true, ◌⊎◌, length}
use mathlib.Core.List.{List, [], ◌∷◌, Memᴰ}
use Rattle.basics.specs.Bytes.{AreBytes}
use Rattle.number.specs.Number.{greatest}
use Rattle.casefile.specs.Parts.{Parts, case_bytes}
use Rattle.casefile.specs.Whole.{longest}
use Rattle.cases.specs.LaidOut.{RightMembers, RightLocals, LaidOut}
use Rattle.utf8.specs.Turning.{is_modified}
use Rattle.format.specs.Format.{bytes_at, read_by, right}
use Rattle.classformat.specs.Contents.{Pool, entry_in, name_of, leads, Code, coded, Method, ClassFile, Local}
use Rattle.classformat.specs.ClassFile.{class_format}
use Rattle.classformat.specs.declared.Entry.{Entry}
use Rattle.classformat.specs.declared.Entry.TheVariants.{Text, Class, Member, Named}
use Rattle.entries.specs.Entries.{entry_by, Serves}
use Rattle.single.specs.Single.{only}
use Rattle.classtexts.specs.Texts.{turned_member}
use Rattle.classparts.specs.Parts.{text_by, member_by, members_of, locals_of, parts_of}

-- bytes that are a class file, and what comes of them
pub record IsClass (file : List ℕ) (c : ClassFile) : Type 0 where
  pub bytes : AreBytes file
  pub end : ℕ
  pub reads : read_by (class_format file) file 0 ≡ right c end

-- one of its methods that has a Code
pub record HasCode (c : ClassFile) (m : Method) (code : Code) : Type 0 where
  pub method : Memᴰ m c.methods
  pub body : m.body ≡ coded code

-- ---- members

module _ (file : List ℕ) (entry : ℕ → Entry) where
  -- a number leads to a text
  pub record Spells (number : ℕ) (text : List ℕ) : Type 0 where
    pub start : ℕ
    pub size : ℕ
    pub found : entry number ≡ Text start size
    pub bytes : text ≡ bytes_at file start size

  -- a number leads to a member that resolves fully: to a class with a name, and to a name and a descriptor
  pub record Resolves (number kind : ℕ) (class name descriptor : List ℕ) : Type 0 where
    pub owner : ℕ
    pub pair : ℕ
    pub class_number : ℕ
    pub name_number : ℕ
    pub descriptor_number : ℕ
    pub member : entry number ≡ Member kind owner pair
    pub owned : entry owner ≡ Class class_number
    pub paired : entry pair ≡ Named name_number descriptor_number
    pub class_text : Spells class_number class
    pub name_text : Spells name_number name
    pub descriptor_text : Spells descriptor_number descriptor

pub record MembersDeclared : Type 0 where
  -- a number that resolves has its member, and what has a number resolves
  pub resolves :
      (file : List ℕ) (entry : ℕ → Entry) (number kind : ℕ) (class name descriptor : List ℕ) →
      Resolves file entry number kind class name descriptor →
      member_by file entry number ≡ turned_member number kind class name descriptor ∷ []
  pub resolved :
      (file : List ℕ) (entry : ℕ → Entry) (number : ℕ) →
      (member_by file entry number ≡ [])
      ⊎ ((kind : ℕ) × (class name descriptor : List ℕ) × Resolves file entry number kind class name descriptor)
  -- the one with a number in the whole table
  pub single : (file : List ℕ) (pool : Pool) (index : ℕ) → only index (members_of file pool) ≡ member_by file (entry_in pool) index
  -- the table of a class file is that of a case
  pub right : (file : List ℕ) (c : ClassFile) → IsClass file c → RightMembers 0 (members_of file c.pool)
  -- no text of the pool went unjudged
  pub judged :
      (file : List ℕ) (c : ClassFile) → IsClass file c → (number start size : ℕ) → entry_in c.pool number ≡ Text start size →
      is_modified (bytes_at file start size) ≡ true

-- ---- methods

pub record MethodsDeclared : Type 0 where
  -- a method's name and descriptor lead to texts, and so does the name of each local
  pub name :
      (file : List ℕ) (c : ClassFile) → IsClass file c → (m : Method) → Memᴰ m c.methods →
      leads (name_of file (entry_in c.pool m.name)) ≡ true
  pub descriptor :
      (file : List ℕ) (c : ClassFile) → IsClass file c → (m : Method) → Memᴰ m c.methods →
      leads (name_of file (entry_in c.pool m.descriptor)) ≡ true
  pub local_name :
      (file : List ℕ) (c : ClassFile) → IsClass file c → (m : Method) (code : Code) → HasCode c m code → (l : Local) →
      Memᴰ l code.tables.locals → leads (name_of file (entry_in c.pool l.name)) ≡ true
  -- the local records are those of a case
  pub locals :
      (file : List ℕ) (c : ClassFile) → IsClass file c → (m : Method) (code : Code) → HasCode c m code →
      RightLocals (locals_of file (entry_in c.pool) code.tables.locals)
  -- the code lies in the file
  pub code :
      (file : List ℕ) (c : ClassFile) → IsClass file c → (m : Method) (code : Code) → HasCode c m code →
      (1 ≤ code.size) × (code.size ≤ greatest) × (code.start + code.size ≤ length file)

-- ---- by a table of places

-- where a table serves the pool, what is found by it is the same: each text, the one member of the whole table that has a number, and the
-- local records
pub record ServedAlike : Type 0 where
  pub text :
      (file table : List ℕ) (pool : Pool) → Serves file table pool → (number : ℕ) →
      text_by file (entry_by file table) number ≡ text_by file (entry_in pool) number
  pub member :
      (file table : List ℕ) (pool : Pool) → Serves file table pool → (index : ℕ) →
      member_by file (entry_by file table) index ≡ only index (members_of file pool)
  pub locals :
      (file table : List ℕ) (pool : Pool) → Serves file table pool → (locals : List Local) →
      locals_of file (entry_by file table) locals ≡ locals_of file (entry_in pool) locals

-- ---- the case

-- these alone may be too large for a case: the fault, the signature, the count of the records, and the whole
pub record SmallEnough (p : Parts) : Type 0 where
  pub fault : p.fault ≤ greatest
  pub signature : length p.signature ≤ greatest
  pub record_count : p.record_count ≤ greatest
  pub short : length (case_bytes p) ≤ longest

-- a case can hold the parts of a method where they are small enough
abbrev pub FitsACase : Type 0
FitsACase =
    (file : List ℕ) (c : ClassFile) → IsClass file c → (m : Method) (code : Code) → HasCode c m code → (fault : ℕ) →
    SmallEnough (parts_of file c m code fault) → LaidOut (parts_of file c m code fault)
