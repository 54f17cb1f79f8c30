-- The methods of a class file as numbers (document 02, request 3: "eight numbers a method (flags, code start and length, 0 and 0 without
-- Code, name start and length, descriptor start and length as offsets of modified UTF-8 in the file, and one for the record count)").
-- Assumes nothing.
use Rattle.std.specs.Prelude.{ℕ, ◌+◌, ◌*◌, ◌≤◌, List, [], ◌∷◌, ◌++◌, ◌≡◌, ltb, length, Option, Some, None, Result, Ok, Err}
use Rattle.basics.specs.Choice.{pick}
use Rattle.text.specs.Writing.{over}
use Rattle.casefile.specs.Whole.{longest}
use Rattle.format.specs.Format.{Reading, right, wrong, read_by}
use Rattle.classformat.specs.Contents.{entry_in, then_text, Body, bodiless, coded, Method, ClassFile}
use Rattle.classformat.specs.ClassFile.{code_tables_format, class_format}
use Rattle.classformat.specs.declared.Entry.{Entry}
use Rattle.entries.specs.Entries.{entry_by, names_by}
use Rattle.bodies.specs.declared.CodePlace.{CodePlace}
use Rattle.localtables.specs.Locals.{count_told}
use Rattle.methods.specs.declared.MethodPlace.{MethodPlace}
use Rattle.methodlist.specs.declared.CodeNumbers.{CodeNumbers}
use Rattle.methodlist.specs.declared.TextPlace.{TextPlace}
use Rattle.methodlist.specs.declared.ListError.{ListError}
use Rattle.methodlist.specs.declared.ListError.TheVariants.{TooLong, Wrong, NoRoom}

-- ---- the numbers of a method

-- where the bytes of a text start, and how many they are; 0 where an entry is no text
abbrev pub text_start : Entry → ℕ
text_start entry = then_text entry 0 (λ start size. start)

abbrev pub text_size : Entry → ℕ
text_size entry = then_text entry 0 (λ start size. size)

-- where the instructions start, how many bytes they are, and how many local records there are; 0 without Code
abbrev pub code_start : Body → ℕ
code_start bodiless = 0
code_start (coded code) = code.start

abbrev pub code_size : Body → ℕ
code_size bodiless = 0
code_size (coded code) = code.size

abbrev pub record_count : Body → ℕ
record_count bodiless = 0
record_count (coded code) = length code.tables.locals

-- the eight, by the entries that its name and its descriptor lead to
abbrev pub method_numbers : (ℕ → Entry) → Method → List ℕ
method_numbers entry m =
    m.flags
    ∷ code_start m.body ∷ code_size m.body
    ∷ text_start (entry m.name) ∷ text_size (entry m.name)
    ∷ text_start (entry m.descriptor) ∷ text_size (entry m.descriptor)
    ∷ record_count m.body ∷ []

-- those of many methods, in the file's order
unfoldable pub listed : (ℕ → Entry) → List Method → List ℕ
listed entry [] = []
listed entry (m ∷ methods) = method_numbers entry m ++ listed entry methods

-- ---- the answer and the buffer

-- how many numbers are needed
abbrev pub needed : ClassFile → ℕ
needed c = 8 * length c.methods

-- "answers 0 with the count of methods, .. 6 with the offset, 4 with the numbers needed", in a buffer of so many numbers
abbrev pub answer_by : Reading ClassFile → ℕ → Result ℕ ListError
answer_by (right c end) room = pick (ltb room (needed c)) (Err (NoRoom (needed c))) (Ok (length c.methods))
answer_by (wrong offset) room = Err (Wrong offset)

-- the buffer starts with the numbers and the rest is unchanged; "a refusal leaves the buffer unchanged"
abbrev pub output_by : Reading ClassFile → List ℕ → List ℕ
output_by (right c end) numbers = pick (ltb (length numbers) (needed c)) numbers (over (listed (entry_in c.pool) c.methods) numbers)
output_by (wrong offset) numbers = numbers

-- 5 where the file is longer than a case can be, before it is read
unfoldable pub list_answer : List ℕ → ℕ → Result ℕ ListError
list_answer file room = pick (ltb longest (length file)) (Err TooLong) (answer_by (read_by (class_format file) file 0) room)

-- and the buffer, unchanged then
unfoldable pub list_output : List ℕ → List ℕ → List ℕ
list_output file numbers = pick (ltb longest (length file)) numbers (output_by (read_by (class_format file) file 0) numbers)

-- document 02's numbers of an answer: 0 with the count of methods, 5, 6 with the offset, 4 with the numbers needed
unfoldable pub numbered : Result ℕ ListError → List ℕ
numbered (Ok count) = 0 ∷ count ∷ []
numbered (Err TooLong) = 5 ∷ []
numbered (Err (Wrong offset)) = 6 ∷ offset ∷ []
numbered (Err (NoRoom size)) = 4 ∷ size ∷ []

-- ---- what the reader's parts answer

-- of a file that is not too long: the answer, and what the buffer holds afterwards
pub record Delivered (file numbers : List ℕ) (answer : Result ℕ ListError) (left : List ℕ) : Type 0 where
  pub answers : answer ≡ answer_by (read_by (class_format file) file 0) (length numbers)
  pub leaves : left ≡ output_by (read_by (class_format file) file 0) numbers

-- where a text is
abbrev pub text_place : Entry → TextPlace
text_place entry = record { start = text_start entry; size = text_size entry }

-- the instructions end no later than the attribute does
abbrev pub CodeInside : Option CodePlace → Type 0
CodeInside None = Unit {0}
CodeInside (Some code) = code.start + code.size ≤ code.stop

-- the eight numbers of a method, by what was found of it
abbrev pub eight : ℕ → CodeNumbers → TextPlace → TextPlace → List ℕ
eight flags code name descriptor =
    flags ∷ code.start ∷ code.size ∷ name.start ∷ name.size ∷ descriptor.start ∷ descriptor.size ∷ code.records ∷ []

module _ (file table : List ℕ) where
  -- the local records are counted where the instructions end
  abbrev pub code_numbers : Option CodePlace → CodeNumbers
  code_numbers None = record { start = 0; size = 0; records = 0 }
  code_numbers (Some code) =
      record {
        start = code.start;
        size = code.size;
        records = count_told (read_by (code_tables_format (names_by file table) code.stop) file (code.start + code.size));
      }

  -- by its places
  abbrev pub numbers_by : MethodPlace → List ℕ
  numbers_by m =
      eight m.flags (code_numbers m.body) (text_place (entry_by file table m.name)) (text_place (entry_by file table m.descriptor))
