-- From what reading the class file told to what is answered and written.
-- Rests on: the table of places serves the pool (crates/classfile); the methods stand one behind the other (crates/standing).
-- Assumes nothing.
use Rattle.std.specs.Prelude.{Ok, Err}
use Prim.Native.Nat.{ℕ, ◌*◌, ◌≤◌, ◌<◌}
use native.Mathlib.Nat.{zero-add}
use native.Mathlib.Omega.{arith}
use mathlib.Core.Path.{◌≡◌, refl, ◌∙◌, sym, ap, subst, fun_ext}
use mathlib.Core.List.{List}
use lib.ListN.{length}
use borrow.Author.Tests.{lt-ltb, le-ltb}
use Rattle.basics.specs.Bytes.{u16_at, AreBytes}
use Rattle.basics.proofs.Bytes.{u16_below}
use Rattle.basics.specs.Parts.{overlaid}
use Rattle.text.specs.Writing.{over}
use Rattle.format.specs.Format.{Format, times, number_at, Reading, right, read_by}
use Rattle.format.proofs.Items.{two_bytes, failed}
use Rattle.format.proofs.Was.{so_many}
use Rattle.classformat.specs.Contents.{entry_in, name_of, Method, ClassFile}
use Rattle.classformat.specs.ClassFile.{method_format, class_format}
use Rattle.classformat.specs.declared.Entry.{Entry}
use Rattle.entries.specs.Entries.{entry_by, names_by, Serves}
use Rattle.classfile.specs.Class.{class_place, class_told, start_table}
use Rattle.classfile.specs.declared.ClassPlace.{ClassPlace}
use Rattle.laying.proofs.Over.{over_holds}
use Rattle.classparts.specs.Right.{IsClass}
use Rattle.standing.specs.Standing.{names_in}
use Rattle.standing.proofs.Methods.{class_at}
use Rattle.standing.proofs.Reading.{class_serves, class_read}
use Rattle.methodlist.specs.List.{listed, Delivered}
use Rattle.methodlist.specs.declared.ListError.TheVariants.{Wrong, NoRoom}
use Rattle.methodlist.proofs.Listing.{eight_each}

-- ---- a class file that was read

-- a number of two bytes counts its methods
counted : (file : List ℕ) (c : ClassFile) (is : IsClass file c) → length c.methods ≡ number_at 2 file (class_at file c is).0
counted file c is =
    let all = class_at file c is in
    so_many (method_format (names_in file c) (length file)) (number_at 2 file all.0) file c.from all.2

few_methods : (file : List ℕ) (c : ClassFile) → IsClass file c → length c.methods < 65536
few_methods file c is =
    let at = (class_at file c is).0 in
    omega (arith, counted file c is, two_bytes file at, u16_below file is.bytes at)

-- they are read by what the table leads to
methods_read :
    (file table : List ℕ) (c : ClassFile) → IsClass file c → entry_by file table ≡ entry_in c.pool →
    (end : ℕ) × (read_by (times (length c.methods) (method_format (names_by file table) (length file))) file c.from ≡ right c.methods end)
methods_read file table c is same =
    let all = class_at file c is in
    let due : (ℕ → Entry) → Format Method = λ entry. method_format (λ index. name_of file (entry index)) (length file) in (
      all.1,
      ap (λ (n : ℕ). read_by (times n (due (entry_by file table))) file c.from) (counted file c is)
          ∙ ap (λ (entry : ℕ → Entry). read_by (times (number_at 2 file all.0) (due entry)) file c.from) same
          ∙ all.2,
    )

-- ---- what fits over the start of a list

overlaid_start : (w d : List ℕ) → length w ≤ length d → overlaid 0 w d ≡ over w d
unfolding overlaid
overlaid_start w d fits = rw (zero-add (length w)) (sym (over_holds w d fits))

-- ---- by what was told

module _ (file numbers : List ℕ) where
  abbrev reading : Reading ClassFile
  reading = read_by (class_format file) file 0

  pub turned_down : {place : ℕ} → class_told reading ≡ Err place → Delivered file numbers (Err (Wrong place)) numbers
  turned_down told = let is = failed class_place reading told in record { answers = rw is; leaves = rw is }

  module _ (are : AreBytes file) {place : ClassPlace} (told : class_told reading ≡ Ok place) where
    abbrev from : ℕ
    from = place.from

    abbrev count : ℕ
    count = place.count

    read : (c : ClassFile) × IsClass file c × (c.from ≡ from) × (length c.methods ≡ count)
    read = class_read file are reading refl told

    pub few : count < 65536
    few = omega (arith, read.3, few_methods file read.0 read.1)

    pub too_small : length numbers < 8 * count → Delivered file numbers (Err (NoRoom (8 * count))) numbers
    too_small less =
        let small = lt-ltb (length numbers) (8 * count) less in
        let is = read.1.reads in
        let many = read.3 in
        record { answers = rw (is, many, small); leaves = rw (is, many, small) }

    pub fitting :
        (before table out : List ℕ) → u16_at file 8 ≤ length before → table ≡ start_table file before → 8 * count ≤ length numbers →
        ((methods : List Method) (end : ℕ) →
        read_by (times count (method_format (names_by file table) (length file))) file from ≡ right methods end →
        out ≡ overlaid 0 (listed (entry_by file table) methods) numbers) →
        Delivered file numbers (Ok count) out
    fitting before table out room kept enough filled =
        let c = read.0 in
        let is = read.1.reads in
        let many = read.3 in
        let large = le-ltb (length numbers) (8 * count) enough in
        let same : entry_by file table ≡ entry_in c.pool =
        fun_ext (subst (λ (t : List ℕ). Serves file t c.pool) (sym kept) (class_serves file before c read.1 room)) in
        let those = methods_read file table c read.1 same in
        let due = method_format (names_by file table) (length file) in
        let there : read_by (times count due) file from ≡ right c.methods those.0 =
        subst (λ (n : ℕ). read_by (times n due) file from ≡ right c.methods those.0) many
        (subst (λ (at : ℕ). read_by (times (length c.methods) due) file at ≡ right c.methods those.0) read.2 those.1) in
        let out-is : out ≡ over (listed (entry_in c.pool) c.methods) numbers =
        filled c.methods those.0 there
        ∙ ap (λ (entry : ℕ → Entry). overlaid 0 (listed entry c.methods) numbers) same
        ∙ overlaid_start (listed (entry_in c.pool) c.methods) numbers (omega (arith, enough, many, eight_each (entry_in c.pool) c.methods)) in
        record { answers = rw (is, many, large); leaves = rw (is, many, large) out-is }
