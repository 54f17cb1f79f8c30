-- The parts at work: a small class file with a member that resolves and one that does not, read whole, and the case of its method.
-- Assumes nothing.
use Prim.Native.Nat.{ℕ}
use mathlib.Core.List.Memᴰ
use mathlib.Core.List.{List, [], ◌∷◌, ◌++◌}
use mathlib.Core.Path.{◌≡◌, refl, sym, subst}
use lib.Dec.{lit≤}
use Rattle.basics.specs.Ascii.{ascii}
use Rattle.basics.proofs.Bytes.{all_below}
use Rattle.number.specs.Number.{groups_of, number_bytes}
use Rattle.items.specs.Text.{text_bytes}
use Rattle.casefile.specs.Parts.{Parts, case_bytes}
use Rattle.cases.specs.LaidOut.{texts_bytes, member_bytes, members_bytes, record_bytes, records_bytes, LaidOut}
use Rattle.utf8.specs.Turning.{is_modified, right_by, size_of, size_by, turned, turned_by, turn_of, turn_by}
use Rattle.format.specs.Format.{and_then, times, each, number_at, right, read_by}
use Rattle.classformat.specs.ClassFile.{entry_format, pool_format, interface_format, handler_format, joined, attribute_format, field_format, local_format, local_table_format, code_attribute_format, code_end_format, code_tables_format, code_format, coded_format, method_attribute_format, method_format, fields_format, end_format, methods_format, head_format, rest_format, start_format, class_format}
use Rattle.classformat.specs.Contents.{Code, coded, Method, ClassFile}
use Rattle.classformat.specs.declared.Entry.TheVariants.{Text, Class, Member, Named, Other, Nothing}
use Rattle.entries.specs.Entries.{resolved_by}
use Rattle.classparts.specs.Parts.{member_by, members_from, members_of, locals_of, parts_of}
use Rattle.classparts.specs.Right.{IsClass, SmallEnough}
use Rattle.classparts.proofs.Methods.{fits_a_case}

-- eleven entries: S, the class of that name, m, ()V, the last two together, the method of the class that they name, a field that the
-- descriptor cannot name, Code, LocalVariableTable, s with a null character as two bytes, and a number
abbrev sample_pool : List ℕ
sample_pool =
    (1 ∷ 0 ∷ 1 ∷ ascii "S") ++ (7 ∷ 0 ∷ 1 ∷ (1 ∷ 0 ∷ 1 ∷ ascii "m" ++ (1 ∷ 0 ∷ 3 ∷ ascii "()V" ++ (
    12 ∷ 0 ∷ 3 ∷ 0 ∷ 4 ∷ 10 ∷ 0 ∷ 2 ∷ 0 ∷ 5 ∷ 9 ∷ 0 ∷ 2 ∷ 0 ∷ 4 ∷ (
    1 ∷ 0 ∷ 4 ∷ ascii "Code" ++ (1 ∷ 0 ∷ 18 ∷ ascii "LocalVariableTable" ++ (1 ∷ 0 ∷ 3 ∷ ascii "s" ++ (0xc0 ∷ 0x80 ∷ (
    3 ∷ 0 ∷ 0 ∷ 0 ∷ 7 ∷ [])))))))))

-- the static method m of 32 bytes of Code: aload_0, arraylength, and a local table with one record, 1, 2 and slot 3
abbrev sample_body : List ℕ
sample_body =
    0 ∷ 9 ∷ 0 ∷ 3 ∷ 0 ∷ 4 ∷ 0 ∷ 1 ∷ 0 ∷ 8 ∷ 0 ∷ 0 ∷ 0 ∷ 32 ∷ 0 ∷ 1 ∷ 0 ∷ 1 ∷ 0 ∷ 0 ∷ 0 ∷ 2 ∷ 0x2a ∷ 0xbe ∷ 0 ∷ 0 ∷
    0 ∷ 1 ∷ 0 ∷ 9 ∷ 0 ∷ 0 ∷ 0 ∷ 12 ∷ 0 ∷ 1 ∷ 0 ∷ 1 ∷ 0 ∷ 2 ∷ 0 ∷ 10 ∷ 0 ∷ 4 ∷ 0 ∷ 3 ∷ []

-- the class S: version 52, the pool, no interface, no field, the method, no attribute
abbrev sample : List ℕ
sample =
    (0xca ∷ 0xfe ∷ 0xba ∷ 0xbe ∷ 0 ∷ 0 ∷ 0 ∷ 52 ∷ 0 ∷ 12 ∷ sample_pool)
    ++ (0 ∷ 33 ∷ 0 ∷ 2 ∷ 0 ∷ 0 ∷ 0 ∷ 0 ∷ 0 ∷ 0 ∷ 0 ∷ 1 ∷ (sample_body ++ (0 ∷ 0 ∷ [])))

abbrev sample_code : Code
sample_code =
    record {
      start = 115;
      size = 2;
      stop = 139;
      tables = record { handlers = []; locals = record { start = 1; size = 2; name = 10; slot = 3 } ∷ [] };
    }

abbrev sample_method : Method
sample_method = record { flags = 9; name = 3; descriptor = 4; body = coded sample_code }

-- number 6 resolves; number 7 does not, since number 4 is no name and type
abbrev sample_class : ClassFile
sample_class =
    record {
      major = 52;
      pool =
          Nothing ∷ Text 13 1 ∷ Class 1 ∷ Text 20 1 ∷ Text 24 3 ∷ Named 3 4 ∷ Member 1 2 5 ∷ Member 0 2 4 ∷
          Text 45 4 ∷ Text 52 18 ∷ Text 73 3 ∷ Other ∷ [];
      from = 93;
      methods = sample_method ∷ [];
    }

sample_is_read : read_by (class_format sample) sample 0 ≡ right sample_class 141
unfolding class_format start_format rest_format head_format fields_format end_format methods_format coded_format code_tables_format code_end_format pool_format entry_format interface_format field_format attribute_format method_format method_attribute_format code_format handler_format code_attribute_format local_table_format local_format joined read_by and_then times each number_at is_modified right_by size_of size_by
sample_is_read = refl

sample_is_a_class : IsClass sample sample_class
sample_is_a_class = record { bytes = all_below 256 sample tt tt; end = 141; reads = sample_is_read }

-- the parts of the case that the file stands for
abbrev sample_case : Parts
sample_case =
    record {
      flags = 9;
      fault = 1;
      code = 0x2a ∷ 0xbe ∷ [];
      signature = ascii "m:()V";
      member_count = 1;
      members = 6 ∷ 1 ∷ (1 ∷ ascii "S" ++ (1 ∷ ascii "m" ++ (3 ∷ ascii "()V")));
      record_count = 1;
      records = 1 ∷ 2 ∷ 3 ∷ 2 ∷ (ascii "s" ++ (0 ∷ []));
    }

sample_parts : parts_of sample sample_class sample_method sample_code 1 ≡ sample_case
unfolding parts_of members_of members_from member_by locals_of resolved_by turned turned_by turn_of turn_by members_bytes member_bytes texts_bytes records_bytes record_bytes text_bytes number_bytes groups_of
sample_parts = refl

sample_is_small : SmallEnough sample_case
unfolding case_bytes text_bytes number_bytes groups_of
sample_is_small = record { fault = lit≤ tt; signature = lit≤ tt; record_count = lit≤ tt; short = lit≤ tt }

pub sample_fits : LaidOut sample_case
sample_fits =
    subst LaidOut sample_parts
    (fits_a_case sample sample_class sample_is_a_class sample_method sample_code
    (record { method = Memᴰ.head refl; body = refl }) 1 (subst SmallEnough (sym sample_parts) sample_is_small))
