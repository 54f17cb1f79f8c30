-- The class file (JVMS 4.1, 4.4 to 4.7, 4.7.3, 4.7.13) as one format, JVMS's tables line by line (document 02, request 3: "Read a class
-- file by JVMS chapter 4: header, constant pool, fields, methods, Code, LocalVariableTable and exception table, with other attributes passed
-- over by length").
-- Assumes nothing.
use Rattle.std.specs.Prelude.{ℕ, zero, suc, ◌-◌, Bool, true, false, List, [], ◌∷◌, ◌++◌, eqb, ltb, length}
use Rattle.basics.specs.Ascii.{ascii}
use Rattle.basics.specs.Choice.{pick, both, one_of, between}
use Rattle.utf8.specs.Turning.{is_modified}
use Rattle.format.specs.Format.{Format, number, text, window, full, here, done, and_then, times, each}
use Rattle.classformat.specs.Contents.{Pool, entry_in, Name, name_of, leads, is_named, Local, Tables, Code, Body, bodiless, coded, Method, Methods, ClassFile}
use Rattle.classformat.specs.declared.Entry.{Entry}
use Rattle.classformat.specs.declared.Entry.TheVariants.{Text, Class, Member, Named, Other, Nothing}

-- "u1, u2, and u4 represent an unsigned one-, two-, or four-byte quantity": before a limit, by a rule
module _ {A : Type 0} (limit : ℕ) where
  abbrev pub u1 : (ℕ → Bool) → (ℕ → Format A) → Format A
  u1 = number 1 limit

  abbrev pub u2 : (ℕ → Bool) → (ℕ → Format A) → Format A
  u2 = number 2 limit

  abbrev pub u4 : (ℕ → Bool) → (ℕ → Format A) → Format A
  u4 = number 4 limit

abbrev pub any : ℕ → Bool
any v = true

-- a length of four bytes and that many bytes, "passed over by length"
abbrev pub passed_over : {A : Type 0} → ℕ → A → Format A
passed_over limit a = text 4 limit (λ size bytes. true) (λ start size. done a)

-- ---- 4.4, the constant pool

-- "Long and double entries take two pool numbers"
abbrev pub wide : ℕ → Bool
wide tag = one_of (5 ∷ 6 ∷ []) tag

-- Table 4.4-A: where so many numbers are left behind the entry's own, one of which a long or a double needs
abbrev pub right_tag : ℕ → ℕ → Bool
right_tag left tag =
    pick (wide tag) (ltb 0 left) (one_of (1 ∷ 3 ∷ 4 ∷ 7 ∷ 8 ∷ 9 ∷ 10 ∷ 11 ∷ 12 ∷ 15 ∷ 16 ∷ 17 ∷ 18 ∷ 19 ∷ 20 ∷ []) tag)

-- what stands behind a tag: 4.4.7 Utf8; 4.4.1 Class; 4.4.2 Fieldref, Methodref and InterfaceMethodref; 4.4.6 NameAndType; 4.4.3 String,
-- 4.4.9 MethodType, 4.4.11 Module, 4.4.12 Package; 4.4.10 Dynamic and InvokeDynamic; 4.4.8 MethodHandle; 4.4.5 Long and Double; 4.4.4
-- Integer and Float
unfoldable pub entry_format : ℕ → ℕ → Format Entry
entry_format limit tag =
    pick (eqb tag 1) (text 2 limit (λ size bytes. is_modified bytes) (λ start size. done (Text start size)))
    (pick (eqb tag 7) (u2 limit any (λ name. done (Class name)))
    (pick (eqb tag 9) (u2 limit any (λ class. u2 limit any (λ pair. done (Member 0 class pair))))
    (pick (one_of (10 ∷ 11 ∷ []) tag) (u2 limit any (λ class. u2 limit any (λ pair. done (Member 1 class pair))))
    (pick (eqb tag 12) (u2 limit any (λ name. u2 limit any (λ descriptor. done (Named name descriptor))))
    (pick (one_of (8 ∷ 16 ∷ 19 ∷ 20 ∷ []) tag) (u2 limit any (λ index. done Other))
    (pick (one_of (17 ∷ 18 ∷ []) tag) (u2 limit any (λ bootstrap. u2 limit any (λ pair. done Other)))
    (pick (eqb tag 15) (u1 limit any (λ kind. u2 limit any (λ reference. done Other)))
    (pick (wide tag) (u4 limit any (λ high. u4 limit any (λ low. done Other)))
    (u4 limit any (λ bytes. done Other))))))))))

-- so many numbers of the pool; the one behind a long or a double has no entry
unfoldable pub pool_format : ℕ → ℕ → Bool → Format Pool
pool_format limit zero behind_wide = done []
pool_format limit (suc left) true = and_then (pool_format limit left false) (λ entries. done (Nothing ∷ entries))
pool_format limit (suc left) false =
    u1 limit (right_tag left) (λ tag.
    and_then (entry_format limit tag) (λ entry.
    and_then (pool_format limit left (wide tag)) (λ entries. done (entry ∷ entries))))

-- ---- what follows no index

-- 4.1, an entry of interfaces
unfoldable pub interface_format : ℕ → Format Unit
interface_format limit = u2 limit any (λ index. done tt)

-- 4.1, from access_flags to interfaces
unfoldable pub head_format : ℕ → Format Unit
head_format limit =
    u2 limit any (λ flags. u2 limit any (λ this. u2 limit any (λ super.
    u2 limit any (λ count. and_then (times count (interface_format limit)) (λ interfaces. done tt)))))

-- 4.7.3, an entry of exception_table: its handler
unfoldable pub handler_format : ℕ → Format ℕ
handler_format limit = u2 limit any (λ from. u2 limit any (λ to. u2 limit any (λ handler. u2 limit any (λ caught. done handler))))

-- "Several local tables join in file order."
unfoldable pub joined : List (List Local) → List Local
joined [] = []
joined (table ∷ tables) = table ++ joined tables

-- ---- what follows indexes to names

module _ (names : ℕ → Name) where
  -- an index that is followed to a name
  abbrev pub is_name : ℕ → Bool
  is_name index = leads (names index)

  -- 4.7, attribute_info: passed over by its length
  unfoldable pub attribute_format : ℕ → Format Unit
  attribute_format limit = u2 limit is_name (λ name. passed_over limit tt)

  -- 4.5, field_info
  unfoldable pub field_format : ℕ → Format Unit
  field_format limit =
      u2 limit any (λ flags. u2 limit any (λ name. u2 limit any (λ descriptor.
      u2 limit any (λ count. and_then (times count (attribute_format limit)) (λ attributes. done tt)))))

  -- 4.7.13, an entry of local_variable_table
  unfoldable pub local_format : ℕ → Format Local
  local_format limit =
      u2 limit any (λ start. u2 limit any (λ size. u2 limit is_name (λ name. u2 limit any (λ descriptor. u2 limit any (λ slot.
      done (record { start = start; size = size; name = name; slot = slot }))))))

  -- 4.7.13, behind the attribute's length
  unfoldable pub local_table_format : ℕ → Format (List Local)
  local_table_format limit = u2 limit any (λ count. and_then (times count (local_format limit)) (λ locals. full limit (done locals)))

  -- an attribute of a Code: a LocalVariableTable, or one that is passed over and has no records
  unfoldable pub code_attribute_format : ℕ → Format (List Local)
  code_attribute_format limit =
      u2 limit is_name (λ name.
      pick (is_named (ascii "LocalVariableTable") (names name)) (window 4 limit (λ stop. local_table_format stop))
      (passed_over limit []))

  -- 4.7.3, from attributes_count on
  unfoldable pub code_end_format : ℕ → Format (List Local)
  code_end_format limit =
      u2 limit any (λ count. and_then (times count (code_attribute_format limit)) (λ tables. full limit (done (joined tables))))

  -- 4.7.3, from exception_table_length on
  unfoldable pub code_tables_format : ℕ → Format Tables
  code_tables_format limit =
      u2 limit any (λ count. and_then (times count (handler_format limit)) (λ handlers.
      and_then (code_end_format limit) (λ locals. done (record { handlers = handlers; locals = locals }))))

  -- 4.7.3, behind the attribute's length: "A code length of 0 or above 65,535 is 6."
  unfoldable pub code_format : ℕ → Format Code
  code_format limit =
      u2 limit any (λ max_stack. u2 limit any (λ max_locals.
      text 4 limit (λ size bytes. between 1 65535 size) (λ start size.
      and_then (code_tables_format limit) (λ tables. done (record { start = start; size = size; stop = limit; tables = tables })))))

  -- "There must be no more than one Code attribute" (4.7.3): a second one's name is wrong
  abbrev pub attribute_name : Body → ℕ → Bool
  attribute_name bodiless name = is_name name
  attribute_name (coded code) name = both (is_name name) (pick (is_named (ascii "Code") (names name)) false true)

  -- 4.7.3, from attribute_length on
  unfoldable pub coded_format : ℕ → Format Body
  coded_format limit = window 4 limit (λ stop. and_then (code_format stop) (λ code. done (coded code)))

  -- an attribute of a method: its Code, or one that is passed over
  unfoldable pub method_attribute_format : ℕ → Body → Format Body
  method_attribute_format limit body =
      u2 limit (attribute_name body) (λ name.
      pick (is_named (ascii "Code") (names name)) (coded_format limit) (passed_over limit body))

  -- 4.6, method_info
  unfoldable pub method_format : ℕ → Format Method
  method_format limit =
      u2 limit any (λ flags. u2 limit is_name (λ name. u2 limit is_name (λ descriptor.
      u2 limit any (λ count. and_then (each count (method_attribute_format limit) bodiless) (λ body.
      done (record { flags = flags; name = name; descriptor = descriptor; body = body }))))))

  -- 4.1, from fields_count on
  unfoldable pub fields_format : ℕ → Format Unit
  fields_format limit = u2 limit any (λ count. and_then (times count (field_format limit)) (λ fields. done tt))

  -- 4.1, from attributes_count on
  unfoldable pub end_format : ℕ → Format Unit
  end_format limit = u2 limit any (λ count. and_then (times count (attribute_format limit)) (λ attributes. full limit (done tt)))

  -- 4.1, from methods_count on
  unfoldable pub methods_format : ℕ → Format Methods
  methods_format limit =
      u2 limit any (λ count. here (λ from. and_then (times count (method_format limit)) (λ methods.
      and_then (end_format limit) (λ end. done (record { from = from; methods = methods })))))

  -- 4.1, from access_flags on
  unfoldable pub rest_format : ℕ → Format Methods
  rest_format limit = and_then (head_format limit) (λ head. and_then (fields_format limit) (λ fields. methods_format limit))

-- ---- 4.1

-- what stands before access_flags
pub record Start : Type 0 where
  pub major : ℕ
  pub pool : Pool

unfoldable pub start_format : ℕ → Format Start
start_format limit =
    u4 limit (λ magic. eqb magic 0xcafebabe) (λ magic.
    u2 limit any (λ minor. u2 limit any (λ major.
    u2 limit (λ count. ltb 0 count) (λ count. and_then (pool_format limit (count - 1) false) (λ entries.
    done (record { major = major; pool = Nothing ∷ entries }))))))

abbrev pub class_of : Start → Methods → ClassFile
class_of start rest = record { major = start.major; pool = start.pool; from = rest.from; methods = rest.methods }

-- the whole file: the names that its pool's numbers lead to lie in it
unfoldable pub class_format : List ℕ → Format ClassFile
class_format file =
    and_then (start_format (length file)) (λ start.
    and_then (rest_format (λ index. name_of file (entry_in start.pool index)) (length file)) (λ rest. done (class_of start rest)))
