-- What comes of a class file (JVMS 4.1): its version, its constant pool and its methods, with their code, handlers and local records.
-- Numbers are the file's own, and texts are places in it.
-- Assumes nothing.
use Rattle.std.specs.Prelude.{ℕ, Bool, true, false, List, [], get_or}
use Rattle.basics.specs.Choice.{same_list}
use Rattle.format.specs.Format.{bytes_at}
use Rattle.classformat.specs.declared.Entry.{Entry}
use Rattle.classformat.specs.declared.Entry.TheVariants.{Text, Class, Member, Named, Other, Nothing}

-- ---- the constant pool

abbrev pub Pool : Type 0
Pool = List Entry

-- the entry with a number
abbrev pub entry_in : Pool → ℕ → Entry
entry_in pool index = get_or pool index Nothing

-- what is made of an entry of one kind, or the answer where it is of another
abbrev pub then_text : {A : Type 0} → Entry → A → (ℕ → ℕ → A) → A
then_text (Text start size) otherwise following = following start size
then_text (Class name) otherwise following = otherwise
then_text (Member kind class pair) otherwise following = otherwise
then_text (Named name descriptor) otherwise following = otherwise
then_text Other otherwise following = otherwise
then_text Nothing otherwise following = otherwise

abbrev pub then_class : {A : Type 0} → Entry → A → (ℕ → A) → A
then_class (Class name) otherwise following = following name
then_class (Text start size) otherwise following = otherwise
then_class (Member kind class pair) otherwise following = otherwise
then_class (Named name descriptor) otherwise following = otherwise
then_class Other otherwise following = otherwise
then_class Nothing otherwise following = otherwise

abbrev pub then_member : {A : Type 0} → Entry → A → (ℕ → ℕ → ℕ → A) → A
then_member (Member kind class pair) otherwise following = following kind class pair
then_member (Text start size) otherwise following = otherwise
then_member (Class name) otherwise following = otherwise
then_member (Named name descriptor) otherwise following = otherwise
then_member Other otherwise following = otherwise
then_member Nothing otherwise following = otherwise

abbrev pub then_named : {A : Type 0} → Entry → A → (ℕ → ℕ → A) → A
then_named (Named name descriptor) otherwise following = following name descriptor
then_named (Text start size) otherwise following = otherwise
then_named (Class name) otherwise following = otherwise
then_named (Member kind class pair) otherwise following = otherwise
then_named Other otherwise following = otherwise
then_named Nothing otherwise following = otherwise

-- what a number leads to where a name is due
pub data Name : Type 0 where
  named : List ℕ → Name
  nameless : Name

-- a Utf8's bytes lie in the file
abbrev pub name_of : List ℕ → Entry → Name
name_of file entry = then_text entry nameless (λ start size. named (bytes_at file start size))

-- "any other followed index that leads nowhere is 6"
abbrev pub leads : Name → Bool
leads (named bytes) = true
leads nameless = false

abbrev pub is_named : List ℕ → Name → Bool
is_named wanted (named bytes) = same_list bytes wanted
is_named wanted nameless = false

-- the bytes of a name, none where there is none
abbrev pub spelled : Name → List ℕ
spelled (named bytes) = bytes
spelled nameless = []

-- ---- methods

-- an entry of a LocalVariableTable: where its local is in scope, for how many bytes, the number of its name, its slot
pub record Local : Type 0 where
  pub start : ℕ
  pub size : ℕ
  pub name : ℕ
  pub slot : ℕ

-- the handlers' entries and the local records of a Code
pub record Tables : Type 0 where
  pub handlers : List ℕ
  pub locals : List Local

-- where the instructions lie and how many bytes they are, where the attribute ends, and its tables
pub record Code : Type 0 where
  pub start : ℕ
  pub size : ℕ
  pub stop : ℕ
  pub tables : Tables

pub data Body : Type 0 where
  bodiless : Body
  coded : Code → Body

-- its flags, the numbers of its name and of its descriptor, and its code
pub record Method : Type 0 where
  pub flags : ℕ
  pub name : ℕ
  pub descriptor : ℕ
  pub body : Body

-- where the first method stands, and the methods
pub record Methods : Type 0 where
  pub from : ℕ
  pub methods : List Method

-- the version, the pool, and the methods
pub record ClassFile : Type 0 where
  pub major : ℕ
  pub pool : Pool
  pub from : ℕ
  pub methods : List Method
