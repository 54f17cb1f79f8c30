-- The format at work, fragment by fragment: a row has a format, a few bytes, and what reading them answers. The limit of an item is a number
-- of its own, so a row may have one that is far behind its bytes: a byte past the last one reads as 0.
-- Assumes nothing.
use Prim.Native.Nat.{ℕ}
use mathlib.Core.Bool.{false}
use mathlib.Core.List.{List, [], ◌∷◌, ◌++◌}
use mathlib.Core.Path.{◌≡◌, refl}
use lib.Dec.{eqb}
use lib.ListN.{length}
use Rattle.basics.specs.Ascii.{ascii}
use Rattle.basics.specs.Choice.{pick}
use Rattle.utf8.specs.Turning.{is_modified, right_by, size_of, size_by}
use Rattle.format.specs.Format.{Format, and_then, times, each, number_at, Reading, right, wrong, read_by}
use Rattle.classformat.specs.Contents.{Pool, Name, named, nameless, Local, Code, Body, bodiless, coded, Method, ClassFile}
use Rattle.classformat.specs.ClassFile.{entry_format, pool_format, interface_format, head_format, handler_format, joined, attribute_format, field_format, local_format, local_table_format, code_attribute_format, code_end_format, code_tables_format, code_format, coded_format, method_attribute_format, method_format, fields_format, end_format, methods_format, rest_format, start_format, class_format}
use Rattle.classformat.specs.declared.Entry.{Entry}
use Rattle.classformat.specs.declared.Entry.TheVariants.{Text, Class, Member, Named, Other, Nothing}

pub record Row (A : Type 0) : Type 0 where
  pub format : Format A
  pub bytes : List ℕ
  pub answer : Reading A

abbrev row : {A : Type 0} → Format A → List ℕ → Reading A → Row A
row format bytes answer = record { format = format; bytes = bytes; answer = answer }

-- what reading answers, and what the rows say, in order
abbrev pub readings : {A : Type 0} → List (Row A) → List (Reading A)
readings [] = []
readings (one ∷ more) = read_by one.format one.bytes 0 ∷ readings more

abbrev pub answers : {A : Type 0} → List (Row A) → List (Reading A)
answers [] = []
answers (one ∷ more) = one.answer ∷ answers more

abbrev pub AllHold : {A : Type 0} → List (Row A) → Type 0
AllHold rows = readings rows ≡ answers rows

-- ---- 4.4, the constant pool

-- what stands behind a tag
abbrev behind : ℕ → List ℕ → Reading Entry → Row Entry
behind tag bytes answer = row (entry_format (length bytes) tag) bytes answer

abbrev entry_rows : List (Row Entry)
entry_rows =
    -- a Utf8: whole, with a null character in its one form, and cut
    behind 1 (0 ∷ 1 ∷ ascii "A") (right (Text 2 1) 3) ∷
    behind 1 (0 ∷ 2 ∷ 0xc0 ∷ 0x80 ∷ []) (right (Text 2 2) 4) ∷
    behind 1 (0 ∷ 2 ∷ ascii "A") (wrong 0) ∷
    -- that is no modified UTF-8: 00, a stray 80, f0, two forms that are longer than needed, a form that is cut
    behind 1 (0 ∷ 1 ∷ 0 ∷ []) (wrong 0) ∷
    behind 1 (0 ∷ 1 ∷ 0x80 ∷ []) (wrong 0) ∷
    behind 1 (0 ∷ 4 ∷ 0xf0 ∷ 0x90 ∷ 0x80 ∷ 0x80 ∷ []) (wrong 0) ∷
    behind 1 (0 ∷ 2 ∷ 0xc1 ∷ 0x81 ∷ []) (wrong 0) ∷
    behind 1 (0 ∷ 3 ∷ 0xe0 ∷ 0x9f ∷ 0xbf ∷ []) (wrong 0) ∷
    behind 1 (0 ∷ 1 ∷ 0xc2 ∷ []) (wrong 0) ∷
    -- Integer and Float, the second cut; Long and Double
    behind 3 (0 ∷ 0 ∷ 0 ∷ 7 ∷ []) (right Other 4) ∷
    behind 4 (0 ∷ 0 ∷ 0 ∷ []) (wrong 0) ∷
    behind 5 (0 ∷ 0 ∷ 0 ∷ 0 ∷ 0 ∷ 0 ∷ 0 ∷ 7 ∷ []) (right Other 8) ∷
    behind 6 (0 ∷ 0 ∷ 0 ∷ 0 ∷ 0 ∷ 0 ∷ 0 ∷ []) (wrong 4) ∷
    -- Class, String
    behind 7 (1 ∷ 2 ∷ []) (right (Class 258) 2) ∷
    behind 8 (1 ∷ 2 ∷ []) (right Other 2) ∷
    -- Fieldref, Methodref, InterfaceMethodref, NameAndType
    behind 9 (0 ∷ 1 ∷ 0 ∷ 2 ∷ []) (right (Member 0 1 2) 4) ∷
    behind 10 (0 ∷ 1 ∷ 0 ∷ 2 ∷ []) (right (Member 1 1 2) 4) ∷
    behind 11 (0 ∷ 1 ∷ 0 ∷ 2 ∷ []) (right (Member 1 1 2) 4) ∷
    behind 12 (0 ∷ 1 ∷ 0 ∷ 2 ∷ []) (right (Named 1 2) 4) ∷
    -- MethodHandle, MethodType, Dynamic, InvokeDynamic, Module, Package
    behind 15 (9 ∷ 0 ∷ 1 ∷ []) (right Other 3) ∷
    behind 16 (0 ∷ 1 ∷ []) (right Other 2) ∷
    behind 17 (0 ∷ 1 ∷ 0 ∷ 2 ∷ []) (right Other 4) ∷
    behind 18 (0 ∷ 1 ∷ 0 ∷ 2 ∷ []) (right Other 4) ∷
    behind 19 (0 ∷ 1 ∷ []) (right Other 2) ∷
    behind 20 (0 ∷ 1 ∷ []) (right Other 2) ∷ []

-- so many pool numbers
abbrev numbers : ℕ → List ℕ → Reading Pool → Row Pool
numbers count bytes answer = row (pool_format (length bytes) count false) bytes answer

abbrev pool_rows : List (Row Pool)
pool_rows =
    -- no such tag
    numbers 1 (0 ∷ 0 ∷ 0 ∷ 0 ∷ 0 ∷ []) (wrong 0) ∷
    numbers 1 (2 ∷ 0 ∷ 0 ∷ 0 ∷ 0 ∷ []) (wrong 0) ∷
    numbers 1 (13 ∷ 0 ∷ 0 ∷ 0 ∷ 0 ∷ []) (wrong 0) ∷
    numbers 1 (21 ∷ 0 ∷ 0 ∷ 0 ∷ 0 ∷ []) (wrong 0) ∷
    -- a Float and a Double, which takes the numbers 2 and 3
    numbers 3 (4 ∷ 0 ∷ 0 ∷ 0 ∷ 7 ∷ 6 ∷ 0 ∷ 0 ∷ 0 ∷ 0 ∷ 0 ∷ 0 ∷ 0 ∷ 7 ∷ []) (right (Other ∷ Other ∷ Nothing ∷ []) 14) ∷
    -- with one number left for it
    numbers 2 (4 ∷ 0 ∷ 0 ∷ 0 ∷ 7 ∷ 6 ∷ 0 ∷ 0 ∷ 0 ∷ 0 ∷ 0 ∷ 0 ∷ 0 ∷ 7 ∷ []) (wrong 5) ∷
    -- with a fourth number, whose tag is missing
    numbers 4 (4 ∷ 0 ∷ 0 ∷ 0 ∷ 7 ∷ 6 ∷ 0 ∷ 0 ∷ 0 ∷ 0 ∷ 0 ∷ 0 ∷ 0 ∷ 7 ∷ []) (wrong 14) ∷ []

-- ---- 4.7.13, local tables

-- numbers 1 to 3 lead to names
abbrev names : ℕ → Name
names index =
    pick (eqb index 1) (named (ascii "Code"))
    (pick (eqb index 2) (named (ascii "LocalVariableTable"))
    (pick (eqb index 3) (named (ascii "x")) nameless))

-- a local in scope from 1 for 2 bytes, with a name, no descriptor, and slot 4
abbrev local_bytes : ℕ → List ℕ
local_bytes name = 0 ∷ 1 ∷ 0 ∷ 2 ∷ 0 ∷ name ∷ 0 ∷ 0 ∷ 0 ∷ 4 ∷ []

abbrev local : Local
local = record { start = 1; size = 2; name = 3; slot = 4 }

-- an attribute of a Code
abbrev of_code : List ℕ → Reading (List Local) → Row (List Local)
of_code bytes answer = row (code_attribute_format names (length bytes)) bytes answer

abbrev local_rows : List (Row (List Local))
local_rows =
    -- a name, a length, a count, a local
    of_code (0 ∷ 2 ∷ 0 ∷ 0 ∷ 0 ∷ 12 ∷ 0 ∷ 1 ∷ local_bytes 3) (right (local ∷ []) 18) ∷
    -- its name leads nowhere
    of_code (0 ∷ 2 ∷ 0 ∷ 0 ∷ 0 ∷ 12 ∷ 0 ∷ 1 ∷ local_bytes 4) (wrong 12) ∷
    -- 11 bytes for one local, whose slot is cut; 13 bytes, one in excess; 13 bytes that are not there
    of_code (0 ∷ 2 ∷ 0 ∷ 0 ∷ 0 ∷ 11 ∷ 0 ∷ 1 ∷ local_bytes 3) (wrong 16) ∷
    of_code (0 ∷ 2 ∷ 0 ∷ 0 ∷ 0 ∷ 13 ∷ 0 ∷ 1 ∷ (local_bytes 3 ++ (0 ∷ []))) (wrong 18) ∷
    of_code (0 ∷ 2 ∷ 0 ∷ 0 ∷ 0 ∷ 13 ∷ 0 ∷ 1 ∷ local_bytes 3) (wrong 2) ∷
    -- what stands behind the table's end is none of its bytes
    of_code (0 ∷ 2 ∷ 0 ∷ 0 ∷ 0 ∷ 12 ∷ 0 ∷ 1 ∷ (local_bytes 3 ++ (9 ∷ []))) (right (local ∷ []) 18) ∷
    -- an attribute of another name is passed over, whatever stands in it; one without a name is wrong
    of_code (0 ∷ 3 ∷ 0 ∷ 0 ∷ 0 ∷ 2 ∷ 9 ∷ 9 ∷ []) (right [] 8) ∷
    of_code (0 ∷ 4 ∷ 0 ∷ 0 ∷ 0 ∷ 2 ∷ 9 ∷ 9 ∷ []) (wrong 0) ∷ []

-- ---- 4.7.3, Code

-- the code that starts at a place and has so many bytes, up to the attribute's end
abbrev plain : ℕ → ℕ → ℕ → Code
plain start size stop = record { start = start; size = size; stop = stop; tables = record { handlers = []; locals = [] } }

-- two numbers, the code's length, one instruction, no handler, no attribute
abbrev code_bytes : List ℕ
code_bytes = 0 ∷ 1 ∷ 0 ∷ 1 ∷ 0 ∷ 0 ∷ 0 ∷ 1 ∷ 0xb1 ∷ 0 ∷ 0 ∷ 0 ∷ 0 ∷ []

abbrev inside : List ℕ → Reading Code → Row Code
inside bytes answer = row (code_format names (length bytes)) bytes answer

abbrev code_rows : List (Row Code)
code_rows =
    inside code_bytes (right (plain 8 1 13) 13) ∷
    -- a byte in excess
    inside (code_bytes ++ (0 ∷ [])) (wrong 13) ∷
    -- lengths of 0; of 65,535 and 65,536, with room for them; of 2, which passes the end
    inside (0 ∷ 1 ∷ 0 ∷ 1 ∷ 0 ∷ 0 ∷ 0 ∷ 0 ∷ 0 ∷ 0 ∷ 0 ∷ 0 ∷ []) (wrong 4) ∷
    row (code_format names 65547) (0 ∷ 1 ∷ 0 ∷ 1 ∷ 0 ∷ 0 ∷ 255 ∷ 255 ∷ []) (right (plain 8 65535 65547) 65547) ∷
    row (code_format names 65548) (0 ∷ 1 ∷ 0 ∷ 1 ∷ 0 ∷ 1 ∷ 0 ∷ 0 ∷ []) (wrong 4) ∷
    inside (0 ∷ 1 ∷ 0 ∷ 1 ∷ 0 ∷ 0 ∷ 0 ∷ 2 ∷ 0xb1 ∷ []) (wrong 4) ∷
    -- a handler at 5 for the bytes from 1 to 4, and two local tables
    inside
    (0 ∷ 1 ∷ 0 ∷ 1 ∷ 0 ∷ 0 ∷ 0 ∷ 1 ∷ 0xb1 ∷ 0 ∷ 1 ∷ 0 ∷ 1 ∷ 0 ∷ 4 ∷ 0 ∷ 5 ∷ 0 ∷ 0 ∷ 0 ∷ 2 ∷
    0 ∷ 2 ∷ 0 ∷ 0 ∷ 0 ∷ 12 ∷ 0 ∷ 1 ∷ (local_bytes 3 ++ (0 ∷ 2 ∷ 0 ∷ 0 ∷ 0 ∷ 12 ∷ 0 ∷ 1 ∷ local_bytes 1)))
    (right
    (record {
      start = 8;
      size = 1;
      stop = 57;
      tables = record { handlers = 5 ∷ []; locals = local ∷ record { start = 1; size = 2; name = 1; slot = 4 } ∷ [] };
    })
    57) ∷ []

-- ---- 4.6, methods

-- an attribute of a method, whose attributes before it have this code
abbrev of_method : Body → List ℕ → Reading Body → Row Body
of_method body bytes answer = row (method_attribute_format names (length bytes) body) bytes answer

abbrev body_rows : List (Row Body)
body_rows =
    -- its Code; a second one; another attribute behind it; a name that leads nowhere
    of_method bodiless (0 ∷ 1 ∷ 0 ∷ 0 ∷ 0 ∷ 13 ∷ code_bytes) (right (coded (plain 14 1 19)) 19) ∷
    of_method (coded (plain 14 1 19)) (0 ∷ 1 ∷ 0 ∷ 0 ∷ 0 ∷ 13 ∷ code_bytes) (wrong 0) ∷
    of_method (coded (plain 14 1 19)) (0 ∷ 3 ∷ 0 ∷ 0 ∷ 0 ∷ 1 ∷ 9 ∷ []) (right (coded (plain 14 1 19)) 7) ∷
    of_method bodiless (0 ∷ 4 ∷ 0 ∷ 0 ∷ 0 ∷ 0 ∷ []) (wrong 0) ∷
    -- a Code behind which its attribute has a byte, and one behind which the method has a byte
    of_method bodiless (0 ∷ 1 ∷ 0 ∷ 0 ∷ 0 ∷ 14 ∷ (code_bytes ++ (0 ∷ []))) (wrong 19) ∷
    of_method bodiless (0 ∷ 1 ∷ 0 ∷ 0 ∷ 0 ∷ 13 ∷ (code_bytes ++ (0 ∷ []))) (right (coded (plain 14 1 19)) 19) ∷ []

abbrev one_method : List ℕ → Reading Method → Row Method
one_method bytes answer = row (method_format names (length bytes)) bytes answer

abbrev method_rows : List (Row Method)
method_rows =
    -- flags, a name, a descriptor, no attribute
    one_method (4 ∷ 1 ∷ 0 ∷ 3 ∷ 0 ∷ 2 ∷ 0 ∷ 0 ∷ []) (right (record { flags = 1025; name = 3; descriptor = 2; body = bodiless }) 8) ∷
    -- the name, and the descriptor, lead nowhere
    one_method (4 ∷ 1 ∷ 0 ∷ 4 ∷ 0 ∷ 2 ∷ 0 ∷ 0 ∷ []) (wrong 2) ∷
    one_method (4 ∷ 1 ∷ 0 ∷ 3 ∷ 0 ∷ 4 ∷ 0 ∷ 0 ∷ []) (wrong 4) ∷ []

-- ---- 4.1, the file

-- magic, version 52, no pool entry; flags, this and super, which are not followed
abbrev head : List ℕ
head = 0xca ∷ 0xfe ∷ 0xba ∷ 0xbe ∷ 0 ∷ 0 ∷ 0 ∷ 52 ∷ 0 ∷ 1 ∷ 0 ∷ 33 ∷ 0 ∷ 9 ∷ 0 ∷ 9 ∷ []

-- what comes of a file with no entry and no method
abbrev empty : ℕ → ClassFile
empty from = record { major = 52; pool = Nothing ∷ []; from = from; methods = [] }

abbrev whole : List ℕ → Reading ClassFile → Row ClassFile
whole file answer = row (class_format file) file answer

abbrev class_rows : List (Row ClassFile)
class_rows =
    -- nothing; three bytes; another magic; a pool count of 0
    whole [] (wrong 0) ∷
    whole (0xca ∷ 0xfe ∷ 0xba ∷ []) (wrong 0) ∷
    whole (0xca ∷ 0xfe ∷ 0xba ∷ 0xbf ∷ 0 ∷ 0 ∷ 0 ∷ 52 ∷ 0 ∷ 1 ∷ []) (wrong 0) ∷
    whole (0xca ∷ 0xfe ∷ 0xba ∷ 0xbe ∷ 0 ∷ 0 ∷ 0 ∷ 52 ∷ 0 ∷ 0 ∷ []) (wrong 8) ∷
    -- no interface, no field, no method, no attribute: whole, with the last count cut, and with a byte in excess
    whole (head ++ (0 ∷ 0 ∷ 0 ∷ 0 ∷ 0 ∷ 0 ∷ 0 ∷ 0 ∷ [])) (right (empty 22) 24) ∷
    whole (head ++ (0 ∷ 0 ∷ 0 ∷ 0 ∷ 0 ∷ 0 ∷ 0 ∷ [])) (wrong 22) ∷
    whole (head ++ (0 ∷ 0 ∷ 0 ∷ 0 ∷ 0 ∷ 0 ∷ 0 ∷ 0 ∷ 0 ∷ [])) (wrong 24) ∷
    -- an interface; a field, whose name and descriptor are not followed; an attribute, whose name is
    whole (head ++ (0 ∷ 1 ∷ 0 ∷ 9 ∷ 0 ∷ 0 ∷ 0 ∷ 0 ∷ 0 ∷ 0 ∷ [])) (right (empty 24) 26) ∷
    whole (head ++ (0 ∷ 0 ∷ 0 ∷ 1 ∷ 0 ∷ 0 ∷ 0 ∷ 9 ∷ 0 ∷ 9 ∷ 0 ∷ 0 ∷ 0 ∷ 0 ∷ 0 ∷ 0 ∷ [])) (right (empty 30) 32) ∷
    whole (head ++ (0 ∷ 0 ∷ 0 ∷ 0 ∷ 0 ∷ 0 ∷ 0 ∷ 1 ∷ 0 ∷ 9 ∷ 0 ∷ 0 ∷ 0 ∷ 0 ∷ [])) (wrong 24) ∷ []

-- ---- every row holds

pub record RowsHold : Type 0 where
  pub entries : AllHold entry_rows
  pub pools : AllHold pool_rows
  pub locals : AllHold local_rows
  pub codes : AllHold code_rows
  pub bodies : AllHold body_rows
  pub methods : AllHold method_rows
  pub classes : AllHold class_rows

pub rows_hold : RowsHold
unfolding class_format start_format rest_format head_format fields_format methods_format end_format pool_format entry_format interface_format field_format attribute_format method_format method_attribute_format coded_format code_format code_tables_format code_end_format handler_format code_attribute_format local_table_format local_format joined read_by and_then times each number_at is_modified right_by size_of size_by
rows_hold = record { entries = refl; pools = refl; locals = refl; codes = refl; bodies = refl; methods = refl; classes = refl }
