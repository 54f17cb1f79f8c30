-- The list at work: a small class file with an abstract method a and a static method b, whose Code has two local records.
-- Assumes nothing.
use Rattle.std.specs.Prelude.{Result, Ok, Err}
use Prim.Native.Nat.{ℕ}
use mathlib.Core.List.{List, [], ◌∷◌, ◌++◌}
use mathlib.Core.Path.{◌≡◌, refl}
use lib.ListN.{length, take, replicate}
use Rattle.basics.specs.Ascii.{ascii}
use Rattle.text.specs.Writing.{over}
use Rattle.utf8.specs.Turning.{is_modified, right_by, size_of, size_by}
use Rattle.format.specs.Format.{and_then, times, each, number_at, read_by}
use Rattle.classformat.specs.ClassFile.{entry_format, pool_format, interface_format, handler_format, joined, attribute_format, field_format, local_format, local_table_format, code_attribute_format, code_end_format, code_tables_format, code_format, coded_format, method_attribute_format, method_format, fields_format, end_format, methods_format, head_format, rest_format, start_format, class_format}
use Rattle.methodlist.specs.List.{listed, list_answer, list_output}
use Rattle.methodlist.specs.declared.ListError.{ListError}
use Rattle.methodlist.specs.declared.ListError.TheVariants.{Wrong, NoRoom}

-- five texts, at 13, 17, 21, 27 and 34
abbrev sample_pool : List ℕ
sample_pool =
    1 ∷ 0 ∷ 1 ∷ ascii "a" ++ (1 ∷ 0 ∷ 1 ∷ ascii "b" ++ (1 ∷ 0 ∷ 3 ∷ ascii "()V" ++ (1 ∷ 0 ∷ 4 ∷ ascii "Code"
    ++ (1 ∷ 0 ∷ 18 ∷ ascii "LocalVariableTable"))))

-- flags, name, descriptor, no attribute; and the same with a Code of 42 bytes, whose instructions aload_0 and arraylength stand at 94
abbrev sample_methods : List ℕ
sample_methods =
    4 ∷ 1 ∷ 0 ∷ 1 ∷ 0 ∷ 3 ∷ 0 ∷ 0 ∷
    0 ∷ 9 ∷ 0 ∷ 2 ∷ 0 ∷ 3 ∷ 0 ∷ 1 ∷ 0 ∷ 4 ∷ 0 ∷ 0 ∷ 0 ∷ 42 ∷ 0 ∷ 1 ∷ 0 ∷ 1 ∷ 0 ∷ 0 ∷ 0 ∷ 2 ∷ 0x2a ∷ 0xbe ∷ 0 ∷ 0 ∷
    0 ∷ 1 ∷ 0 ∷ 5 ∷ 0 ∷ 0 ∷ 0 ∷ 22 ∷ 0 ∷ 2 ∷ 0 ∷ 0 ∷ 0 ∷ 2 ∷ 0 ∷ 1 ∷ 0 ∷ 3 ∷ 0 ∷ 0 ∷ 0 ∷ 1 ∷ 0 ∷ 1 ∷ 0 ∷ 2 ∷ 0 ∷ 3 ∷ 0 ∷ 1 ∷ []

-- version 52, the pool, no interface, no field, the methods, no attribute
abbrev sample : List ℕ
sample =
    (0xca ∷ 0xfe ∷ 0xba ∷ 0xbe ∷ 0 ∷ 0 ∷ 0 ∷ 52 ∷ 0 ∷ 6 ∷ sample_pool)
    ++ (0 ∷ 33 ∷ 0 ∷ 0 ∷ 0 ∷ 0 ∷ 0 ∷ 0 ∷ 0 ∷ 0 ∷ 0 ∷ 2 ∷ (sample_methods ++ (0 ∷ 0 ∷ [])))

-- a file and a buffer, the answer, and the buffer afterwards
pub record Row : Type 0 where
  pub file : List ℕ
  pub numbers : List ℕ
  pub answer : Result ℕ ListError
  pub left : List ℕ

abbrev sevens : ℕ → List ℕ
sevens n = replicate n 7

abbrev rows : List Row
rows =
    -- the numbers of a, those of b, and one that is left
    record {
      file = sample;
      numbers = sevens 17;
      answer = Ok 2;
      left = 1025 ∷ 0 ∷ 0 ∷ 13 ∷ 1 ∷ 21 ∷ 3 ∷ 0 ∷ 9 ∷ 94 ∷ 2 ∷ 17 ∷ 1 ∷ 21 ∷ 3 ∷ 2 ∷ 7 ∷ [];
    } ∷
    -- one too few
    record { file = sample; numbers = sevens 15; answer = Err (NoRoom 16); left = sevens 15 } ∷
    -- the last count is cut
    record { file = take 129 sample; numbers = sevens 16; answer = Err (Wrong 128); left = sevens 16 } ∷ []

abbrev pub AllHold : List Row → Type 0
AllHold [] = Unit {0}
AllHold (one ∷ more) =
    (list_answer one.file (length one.numbers) ≡ one.answer) × (list_output one.file one.numbers ≡ one.left) × AllHold more

pub rows_hold : AllHold rows
unfolding list_answer list_output listed over class_format start_format rest_format head_format fields_format end_format methods_format coded_format code_tables_format code_end_format pool_format entry_format interface_format field_format attribute_format method_format method_attribute_format code_format handler_format code_attribute_format local_table_format local_format joined read_by and_then times each number_at is_modified right_by size_of size_by
rows_hold = (refl, refl, (refl, refl, (refl, refl, tt)))
