-- What comes of a class file, by the rules of its format: each text of its pool lies in the file and is judged, its numbers are those of
-- two bytes, its names lead to texts, and its code lies in the file.
-- Rests on: what a format makes has what its items' rules give (crates/format).
-- Assumes nothing.
use Prim.Native.Nat.{ℕ, zero, suc, ◌+◌, ◌-◌, ◌^◌, ◌≤◌, ◌<◌}
use native.Mathlib.Nat.{le_refl, le_trans}
use native.Mathlib.Omega.{arith}
use mathlib.Core.Path.{◌≡◌, refl, ap}
use mathlib.Core.Bool.{Bool, true, false}
use mathlib.Core.List.{List, [], ◌∷◌}
use lib.Dec.{eqb, leb, ltb}
use lib.ListN.{length}
use borrow.Author.Tests.{ltb-true, leb-true}
use Rattle.basics.specs.Ascii.{ascii}
use Rattle.basics.specs.Choice.{pick, both, one_of}
use Rattle.utf8.specs.Turning.{is_modified}
use Rattle.format.specs.Format.{Format, text, window, done, bytes_at}
use Rattle.format.proofs.Making.{Makes, of_number, of_text, of_window, of_full, of_here, of_done, read_has, makes_then, makes_times, makes_each, Every, every_append}
use Rattle.classformat.specs.ClassFile.{u1, u2, u4, any, passed_over, wide, entry_format, pool_format, interface_format, handler_format, joined, attribute_format, field_format, local_format, local_table_format, code_attribute_format, code_end_format, code_tables_format, code_format, coded_format, method_attribute_format, method_format, fields_format, end_format, methods_format, head_format, rest_format, Start, start_format, class_format}
use Rattle.classformat.specs.Contents.{Pool, entry_in, Name, name_of, leads, is_named, Local, Code, Body, bodiless, coded, Method, ClassFile, Tables, Methods}
use Rattle.classformat.specs.declared.Entry.{Entry}
use Rattle.classformat.specs.declared.Entry.TheVariants.{Text, Class, Member, Named, Other, Nothing}
use Rattle.classparts.specs.Right.{IsClass}

-- ---- what is right of each

module _ (file : List ℕ) where
  abbrev pub EntryRight : Entry → Type 0
  EntryRight (Text start size) = (start + size ≤ length file) × (size ≤ 65535) × (is_modified (bytes_at file start size) ≡ true)
  EntryRight (Class name) = Unit {0}
  EntryRight (Member kind class pair) = kind ≤ 1
  EntryRight (Named name descriptor) = Unit {0}
  EntryRight Other = Unit {0}
  EntryRight Nothing = Unit {0}

  pub record PoolRight (pool : Pool) : Type 0 where
    pub first : entry_in pool 0 ≡ Nothing
    pub few : length pool ≤ 65535
    pub entries : Every EntryRight pool

  module _ (names : ℕ → Name) where
    pub record LocalRight (l : Local) : Type 0 where
      pub start : l.start ≤ 65535
      pub size : l.size ≤ 65535
      pub slot : l.slot ≤ 65535
      pub name : leads (names l.name) ≡ true

    pub record CodeRight (code : Code) : Type 0 where
      pub some : 1 ≤ code.size
      pub few : code.size ≤ 65535
      pub inside : code.start + code.size ≤ length file
      pub locals : Every LocalRight code.tables.locals

    abbrev pub BodyRight : Body → Type 0
    BodyRight bodiless = Unit {0}
    BodyRight (coded code) = CodeRight code

    pub record MethodRight (m : Method) : Type 0 where
      pub flags : m.flags ≤ 65535
      pub name : leads (names m.name) ≡ true
      pub descriptor : leads (names m.descriptor) ≡ true
      pub body : BodyRight m.body

  pub record ClassRight (c : ClassFile) : Type 0 where
    pub pool : PoolRight c.pool
    pub methods : Every (MethodRight (λ index. name_of file (entry_in c.pool index))) c.methods

-- ---- numbers

-- a number of two bytes
of_two_bytes : (v : ℕ) → v < 256 ^ 2 → v ≤ 65535
of_two_bytes v small = omega (arith, small)

a_field : 0 ≤ 1
a_field = omega arith

a_method : 1 ≤ 1
a_method = omega arith

-- ---- the pool

module _ (file : List ℕ) where
  -- by the tests of its tag
  abbrev behind_tag : (utf8 class field method pair index dynamic handle long : Bool) → Format Entry
  behind_tag utf8 class field method pair index dynamic handle long =
      let limit = length file in
      pick utf8 (text 2 limit (λ size bytes. is_modified bytes) (λ start size. done (Text start size)))
      (pick class (u2 limit any (λ name. done (Class name)))
      (pick field (u2 limit any (λ class. u2 limit any (λ pair. done (Member 0 class pair))))
      (pick method (u2 limit any (λ class. u2 limit any (λ pair. done (Member 1 class pair))))
      (pick pair (u2 limit any (λ name. u2 limit any (λ descriptor. done (Named name descriptor))))
      (pick index (u2 limit any (λ index. done Other))
      (pick dynamic (u2 limit any (λ bootstrap. u2 limit any (λ pair. done Other)))
      (pick handle (u1 limit any (λ kind. u2 limit any (λ reference. done Other)))
      (pick long (u4 limit any (λ high. u4 limit any (λ low. done Other)))
      (u4 limit any (λ bytes. done Other))))))))))

  by_tests :
      (utf8 class field method pair index dynamic handle long : Bool) →
      Makes file (EntryRight file) (behind_tag utf8 class field method pair index dynamic handle long)
  by_tests true class field method pair index dynamic handle long =
      of_text (λ start size fits small judged. of_done {a = Text start size} (fits, of_two_bytes size small, judged))
  by_tests false true field method pair index dynamic handle long = of_number (λ x small t. of_done tt)
  by_tests false false true method pair index dynamic handle long = of_number (λ x small t. of_number (λ y small t. of_done a_field))
  by_tests false false false true pair index dynamic handle long = of_number (λ x small t. of_number (λ y small t. of_done a_method))
  by_tests false false false false true index dynamic handle long = of_number (λ x small t. of_number (λ y small t. of_done tt))
  by_tests false false false false false true dynamic handle long = of_number (λ x small t. of_done tt)
  by_tests false false false false false false true handle long = of_number (λ x small t. of_number (λ y small t. of_done tt))
  by_tests false false false false false false false true long = of_number (λ x small t. of_number (λ y small t. of_done tt))
  by_tests false false false false false false false false true = of_number (λ x small t. of_number (λ y small t. of_done tt))
  by_tests false false false false false false false false false = of_number (λ x small t. of_done tt)

  makes_entry : (tag : ℕ) → Makes file (EntryRight file) (entry_format (length file) tag)
  unfolding entry_format
  makes_entry tag =
      by_tests (eqb tag 1) (eqb tag 7) (eqb tag 9) (one_of (10 ∷ 11 ∷ []) tag) (eqb tag 12) (one_of (8 ∷ 16 ∷ 19 ∷ 20 ∷ []) tag)
      (one_of (17 ∷ 18 ∷ []) tag) (eqb tag 15) (wide tag)

  -- so many entries
  abbrev Entries : ℕ → Pool → Type 0
  Entries left entries = (length entries ≡ left) × Every (EntryRight file) entries

  makes_pool : (left : ℕ) (behind_wide : Bool) → Makes file (Entries left) (pool_format (length file) left behind_wide)
  unfolding pool_format
  makes_pool zero behind_wide = of_done (refl, tt)
  makes_pool (suc left) true = makes_then (makes_pool left false) (λ entries so. of_done (ap suc so.0, (tt, so.1)))
  makes_pool (suc left) false =
      of_number (λ tag small t.
      makes_then (makes_entry tag) (λ entry one.
      makes_then (makes_pool left (wide tag)) (λ entries so. of_done {a = entry ∷ entries} (ap suc so.0, (one, so.1)))))

  -- a pool that counts so many numbers has an entry for each but the first
  whole_pool :
      (count : ℕ) (entries : Pool) → Entries (count - 1) entries → count < 256 ^ 2 → ltb 0 count ≡ true →
      PoolRight file (Nothing ∷ entries)
  whole_pool count entries so small some =
      record { first = refl; few = omega (arith, so.0, small, ltb-true 0 count some); entries = (tt, so.1) }

  abbrev StartRight : Start → Type 0
  StartRight start = PoolRight file start.pool

  makes_start : Makes file StartRight (start_format (length file))
  unfolding start_format
  makes_start =
      of_number (λ magic small t. of_number (λ minor small t. of_number (λ major small t. of_number (λ count small some.
      makes_then (makes_pool (count - 1) false) (λ entries so.
      of_done {a = record { major = major; pool = Nothing ∷ entries }} (whole_pool count entries so small some))))))

-- ---- the methods

every_joined : (P : Local → Type 0) (tables : List (List Local)) → Every (Every P) tables → Every P (joined tables)
unfolding joined
every_joined P [] all = tt
every_joined P (table ∷ tables) (one, more) = every_append P table (joined tables) one (every_joined P tables more)

module _ (file : List ℕ) (names : ℕ → Name) where
  -- what is passed over leaves nothing to be known
  abbrev Passed : {A : Type 0} → A → Type 0
  Passed a = Unit {0}

  makes_local : (limit : ℕ) → Makes file (LocalRight file names) (local_format names limit)
  unfolding local_format
  makes_local limit =
      of_number (λ start low t. of_number (λ size few t. of_number (λ name small leads. of_number (λ descriptor small t. of_number (λ slot less t.
      of_done (record { start = of_two_bytes start low; size = of_two_bytes size few; slot = of_two_bytes slot less; name = leads }))))))

  makes_table : (limit : ℕ) → Makes file (Every (LocalRight file names)) (local_table_format names limit)
  unfolding local_table_format
  makes_table limit = of_number (λ count small t. makes_then (makes_times count (makes_local limit)) (λ locals so. of_full (of_done so.1)))

  makes_tables : (limit : ℕ) → Makes file (Every (LocalRight file names)) (code_attribute_format names limit)
  unfolding code_attribute_format
  makes_tables limit = of_number (λ name small t. by (is_named (ascii "LocalVariableTable") (names name)))
    where
      by :
          (b : Bool) →
          Makes file (Every (LocalRight file names)) (pick b (window 4 limit (λ stop. local_table_format names stop)) (passed_over limit []))
      by true = of_window (λ stop fits. makes_table stop)
      by false = of_text (λ start size fits small t. of_done tt)

  makes_handler : (limit : ℕ) → Makes file (Passed {A = ℕ}) (handler_format limit)
  unfolding handler_format
  makes_handler limit =
      of_number (λ from small t. of_number (λ to small t. of_number (λ handler small t. of_number (λ caught small t. of_done tt))))

  code_size : (size : ℕ) → both (leb 1 size) (leb size 65535) ≡ true → (1 ≤ size) × (size ≤ 65535)
  code_size size is = by (leb 1 size) (leb size 65535) refl refl is
    where
      by :
          (s t : Bool) → leb 1 size ≡ s → leb size 65535 ≡ t → both s t ≡ true → (1 ≤ size) × (size ≤ 65535)
      by true true some few is = (leb-true 1 size some, leb-true size 65535 few)
      by true false some few is = let z : ◌≡◌ {A = ℕ} 0 1 = cc in absurd (omega arith)
      by false t some few is = let z : ◌≡◌ {A = ℕ} 0 1 = cc in absurd (omega arith)

  makes_code_end : (limit : ℕ) → Makes file (Every (LocalRight file names)) (code_end_format names limit)
  unfolding code_end_format
  makes_code_end limit =
      of_number (λ count small t. makes_then (makes_times count (makes_tables limit)) (λ tables so.
      of_full (of_done (every_joined (LocalRight file names) tables so.1))))

  makes_code_tables : (limit : ℕ) → Makes file (λ (tables : Tables). Every (LocalRight file names) tables.locals) (code_tables_format names limit)
  unfolding code_tables_format
  makes_code_tables limit =
      of_number (λ count small t. makes_then (makes_times count (makes_handler limit)) (λ handlers passed.
      makes_then (makes_code_end limit) (λ locals so. of_done so)))

  makes_code : (limit : ℕ) → limit ≤ length file → Makes file (CodeRight file names) (code_format names limit)
  unfolding code_format
  makes_code limit low =
      of_number (λ stack small t. of_number (λ slots small t. of_text (λ start size fits small between.
      makes_then (makes_code_tables limit) (λ tables so.
      let sized = code_size size between in
      of_done (record { some = sized.0; few = sized.1; inside = le_trans fits low; locals = so })))))

  makes_coded : (limit : ℕ) → limit ≤ length file → Makes file (BodyRight file names) (coded_format names limit)
  unfolding coded_format
  makes_coded limit low = of_window (λ stop fits. makes_then (makes_code stop (le_trans fits low)) (λ code is. of_done is))

  makes_body :
      (limit : ℕ) → limit ≤ length file → (body : Body) → BodyRight file names body →
      Makes file (BodyRight file names) (method_attribute_format names limit body)
  unfolding method_attribute_format
  makes_body limit low body so = of_number (λ name small t. by (is_named (ascii "Code") (names name)))
    where
      by : (b : Bool) → Makes file (BodyRight file names) (pick b (coded_format names limit) (passed_over limit body))
      by true = makes_coded limit low
      by false = of_text (λ start size fits small t. of_done so)

  makes_method : Makes file (MethodRight file names) (method_format names (length file))
  unfolding method_format
  makes_method =
      of_number (λ flags few t. of_number (λ name small named. of_number (λ descriptor small described. of_number (λ count small t.
      makes_then (makes_each count (makes_body (length file) (le_refl (length file))) tt) (λ body so.
      of_done (record { flags = of_two_bytes flags few; name = named; descriptor = described; body = so }))))))

  makes_attribute : Makes file (Passed {A = Unit}) (attribute_format names (length file))
  unfolding attribute_format
  makes_attribute = of_number (λ name small t. of_text (λ start size fits small t. of_done tt))

  makes_field : Makes file (Passed {A = Unit}) (field_format names (length file))
  unfolding field_format
  makes_field =
      of_number (λ flags small t. of_number (λ name small t. of_number (λ descriptor small t. of_number (λ count small t.
      makes_then (makes_times count makes_attribute) (λ attributes passed. of_done tt)))))

  makes_interface : (limit : ℕ) → Makes file (Passed {A = Unit}) (interface_format limit)
  unfolding interface_format
  makes_interface limit = of_number (λ index small t. of_done tt)

  makes_head : (limit : ℕ) → Makes file (Passed {A = Unit}) (head_format limit)
  unfolding head_format
  makes_head limit =
      of_number (λ flags small t. of_number (λ this small t. of_number (λ super small t.
      of_number (λ count small t. makes_then (makes_times count (makes_interface limit)) (λ interfaces passed. of_done tt)))))

  makes_fields : Makes file (Passed {A = Unit}) (fields_format names (length file))
  unfolding fields_format
  makes_fields = of_number (λ count small t. makes_then (makes_times count makes_field) (λ fields passed. of_done tt))

  makes_end : Makes file (Passed {A = Unit}) (end_format names (length file))
  unfolding end_format
  makes_end = of_number (λ count small t. makes_then (makes_times count makes_attribute) (λ attributes passed. of_full (of_done tt)))

  makes_methods : Makes file (λ (m : Methods). Every (MethodRight file names) m.methods) (methods_format names (length file))
  unfolding methods_format
  makes_methods =
      of_number (λ count small t. of_here (λ from. makes_then (makes_times count makes_method) (λ methods so.
      makes_then makes_end (λ end passed. of_done so.1))))

-- ---- the whole

module _ (file : List ℕ) where
  makes_rest :
      (names : ℕ → Name) → Makes file (λ (m : Methods). Every (MethodRight file names) m.methods) (rest_format names (length file))
  unfolding rest_format
  makes_rest names =
      makes_then (makes_head file names (length file)) (λ head passed. makes_then (makes_fields file names) (λ fields passed. makes_methods file names))

  makes_class : Makes file (ClassRight file) (class_format file)
  unfolding class_format
  makes_class =
      makes_then (makes_start file) (λ start so.
      makes_then (makes_rest (λ index. name_of file (entry_in start.pool index))) (λ rest right. of_done (record { pool = so; methods = right })))

pub class_right : (file : List ℕ) (c : ClassFile) → IsClass file c → ClassRight file c
class_right file c is = read_has (ClassRight file) file is.bytes (makes_class file) 0 is.reads
