-- Reading what parts lay out to gives these parts, and whatever is accepted is what its parts lay out to.
-- Rests on: runs one item at a time (Items), the reader as a run of the layout (Declared).
-- Assumes nothing.
use Rattle.std.specs.Prelude.{Result, Ok, Err}
use Prim.Native.Nat.{ℕ, ◌+◌, ◌-◌, ◌≤◌}
use native.Mathlib.Omega.{arith}
use mathlib.Core.Path.{◌≡◌, refl, ◌∙◌, sym, ap, ap₂, subst}
use mathlib.Core.Bool.{Bool, true, false}
use mathlib.Core.List.{List, [], ◌∷◌, ◌++◌, append-nil}
use lib.Dec.{ltb}
use lib.ListN.{length, take, drop, length-append}
use borrow.Author.Tests.{le-ltb, ltb-false}
use Rattle.basics.specs.Bytes.{AreBytes}
use Rattle.basics.specs.Choice.{pick}
use Rattle.number.specs.Number.{greatest, number_bytes}
use Rattle.items.specs.Text.{text_bytes}
use Rattle.tables.specs.Layout.{Layout, number, text, ended, any, members_then, records_then, tables_then, case_layout, run_by}
use Rattle.casefile.specs.Parts.{Parts, case_bytes, parts_of}
use Rattle.casefile.specs.Whole.{tables_at, places_in, longest, case_of}
use Rattle.casefile.specs.declared.Places.{Places}
use Rattle.casefile.specs.declared.TablePlaces.{TablePlaces}
use Rattle.cases.specs.LaidOut.{members_bytes, MemberRun, records_bytes, RecordRun, LaidOut, ReadsBack, AcceptedIsLaidOut}
use Rattle.cases.specs.Standing.{Stands}
use Rattle.cases.proofs.Declared.{all_right, wrong_at, on_run, on_case, case_run, fits_of, of_short}
use Rattle.cases.proofs.Items.{members_on, records_on, NumberBefore, TextBefore, MembersBefore, RecordsBefore, number_back, text_back, members_back, records_back}
use Rattle.cases.proofs.Reading.{first_stands, second_stands, both_stand, standing_part, number_reads, text_reads, text_part_is}

-- ---- what parts lay out to is read

-- a run of members, read where it stands
member-run :
    (bytes : List ℕ) (at count : ℕ) (run : List ℕ) → MemberRun count run → Stands bytes at run →
    run_by (members_then count 0 ended) bytes at ≡ Ok (at + length run)
unfolding run_by
member-run bytes at count run is stands =
    let own = subst (λ (r : List ℕ). Stands bytes at r) is.bytes stands in
    ap (λ (n : ℕ). run_by (members_then n 0 ended) bytes at) (sym is.counted)
    ∙ members_on bytes at 0 ended is.members is.right own
    ∙ ap (λ (r : List ℕ). Ok (at + length r)) (sym is.bytes)

record-run :
    (bytes : List ℕ) (at count : ℕ) (run : List ℕ) → RecordRun count run → Stands bytes at run →
    run_by (records_then count ended) bytes at ≡ Ok (at + length run)
unfolding run_by
record-run bytes at count run is stands =
    let own = subst (λ (r : List ℕ). Stands bytes at r) is.bytes stands in
    ap (λ (n : ℕ). run_by (records_then n ended) bytes at) (sym is.counted)
    ∙ records_on bytes at ended is.locals is.right own
    ∙ ap (λ (r : List ℕ). Ok (at + length r)) (sym is.bytes)

-- the two runs with their counts, from a place on
module _ (bytes : List ℕ) (at : ℕ) (p : Parts) (right : LaidOut p) where
  abbrev members_at : ℕ
  members_at = at + length (number_bytes p.member_count)

  abbrev members_end : ℕ
  members_end = members_at + length p.members

  abbrev records_at : ℕ
  records_at = members_end + length (number_bytes p.record_count)

  abbrev table_bytes : List ℕ
  table_bytes = number_bytes p.member_count ++ (p.members ++ (number_bytes p.record_count ++ p.records))

  abbrev table_places : TablePlaces
  table_places =
      record {
        members = members_at;
        members_length = members_end - members_at;
        member_count = p.member_count;
        records = records_at;
        records_length = records_at + length p.records - records_at;
        record_count = p.record_count;
        end = records_at + length p.records;
      }

  members_stand : Stands bytes at table_bytes → Stands bytes members_at (p.members ++ (number_bytes p.record_count ++ p.records))
  members_stand stands = second_stands bytes at (number_bytes p.member_count) _ stands

  count_stands : Stands bytes at table_bytes → Stands bytes members_end (number_bytes p.record_count ++ p.records)
  count_stands stands = second_stands bytes members_at p.members _ (members_stand stands)

  records_stand : Stands bytes at table_bytes → Stands bytes records_at p.records
  records_stand stands = second_stands bytes members_end (number_bytes p.record_count) p.records (count_stands stands)

  tables_read : Stands bytes at table_bytes → tables_at bytes at ≡ Ok table_places
  unfolding tables_at
  tables_read stands =
      rw (
        number_reads greatest bytes at p.member_count right.member_count (first_stands bytes at (number_bytes p.member_count) _ stands),
        member-run bytes members_at p.member_count p.members right.members
            (first_stands bytes members_at p.members _ (members_stand stands)),
        number_reads greatest bytes members_end p.record_count right.record_count
            (first_stands bytes members_end (number_bytes p.record_count) p.records (count_stands stands)),
        record-run bytes records_at p.record_count p.records right.records (records_stand stands),
      )

module _ (p : Parts) (right : LaidOut p) where
  abbrev laid_bytes : List ℕ
  laid_bytes = case_bytes p

  abbrev fault_at : ℕ
  fault_at = 0 + length (number_bytes p.flags)

  abbrev code_at : ℕ
  code_at = fault_at + length (number_bytes p.fault)

  abbrev code_start : ℕ
  code_start = code_at + length (number_bytes (length p.code))

  abbrev signature_at : ℕ
  signature_at = code_at + length (text_bytes p.code)

  abbrev signature_start : ℕ
  signature_start = signature_at + length (number_bytes (length p.signature))

  abbrev tables_place : ℕ
  tables_place = signature_at + length (text_bytes p.signature)

  abbrev from_tables : List ℕ
  from_tables = table_bytes laid_bytes tables_place p right

  abbrev from_signature : List ℕ
  from_signature = text_bytes p.signature ++ from_tables

  abbrev from_code : List ℕ
  from_code = text_bytes p.code ++ from_signature

  abbrev from_fault : List ℕ
  from_fault = number_bytes p.fault ++ from_code

  all_stands : Stands laid_bytes 0 (number_bytes p.flags ++ from_fault)
  unfolding case_bytes
  all_stands = record { rest = []; is = sym (append-nil laid_bytes) }

  fault_stands : Stands laid_bytes fault_at from_fault
  fault_stands = second_stands laid_bytes 0 (number_bytes p.flags) from_fault all_stands

  code_stands : Stands laid_bytes code_at from_code
  code_stands = second_stands laid_bytes fault_at (number_bytes p.fault) from_code fault_stands

  signature_stands : Stands laid_bytes signature_at from_signature
  signature_stands = second_stands laid_bytes code_at (text_bytes p.code) from_signature code_stands

  tables_stand : Stands laid_bytes tables_place from_tables
  tables_stand = second_stands laid_bytes signature_at (text_bytes p.signature) from_tables signature_stands

  code_ends : code_start + length p.code ≡ signature_at
  unfolding text_bytes
  code_ends = omega (arith, length-append (number_bytes (length p.code)) p.code)

  signature_ends : signature_start + length p.signature ≡ tables_place
  unfolding text_bytes
  signature_ends = omega (arith, length-append (number_bytes (length p.signature)) p.signature)

  to_the_end : length laid_bytes ≤ records_at laid_bytes tables_place p right + length p.records
  unfolding case_bytes
  to_the_end =
      omega (
        arith,
        length-append (number_bytes p.flags) from_fault,
        length-append (number_bytes p.fault) from_code,
        length-append (text_bytes p.code) from_signature,
        length-append (text_bytes p.signature) from_tables,
        length-append (number_bytes p.member_count) (p.members ++ (number_bytes p.record_count ++ p.records)),
        length-append p.members (number_bytes p.record_count ++ p.records),
        length-append (number_bytes p.record_count) p.records,
      )

  abbrev laid_tables : TablePlaces
  laid_tables = table_places laid_bytes tables_place p right

  abbrev laid_places : Places
  laid_places =
      record {
        flags = p.flags;
        fault = p.fault;
        code = code_start;
        code_length = length p.code;
        signature = signature_start;
        signature_length = length p.signature;
        members = laid_tables.members;
        members_length = laid_tables.members_length;
        member_count = laid_tables.member_count;
        records = laid_tables.records;
        records_length = laid_tables.records_length;
        record_count = laid_tables.record_count;
      }

  places_read : places_in laid_bytes ≡ Ok laid_places
  unfolding places_in
  places_read =
      rw (
        number_reads greatest laid_bytes 0 p.flags right.flags (first_stands laid_bytes 0 (number_bytes p.flags) from_fault all_stands),
        number_reads greatest laid_bytes fault_at p.fault right.fault
            (first_stands laid_bytes fault_at (number_bytes p.fault) from_code fault_stands),
        text_reads laid_bytes code_at p.code right.code (first_stands laid_bytes code_at (text_bytes p.code) from_signature code_stands),
        code_ends,
        text_reads laid_bytes signature_at p.signature right.signature
            (first_stands laid_bytes signature_at (text_bytes p.signature) from_tables signature_stands),
        signature_ends,
        tables_read laid_bytes tables_place p right tables_stand,
        le-ltb (records_at laid_bytes tables_place p right + length p.records) (length laid_bytes) to_the_end,
      )

  -- a part that stands, by a length that is a difference of laid_places
  part_between : (at : ℕ) (run : List ℕ) → Stands laid_bytes at run → take (at + length run - at) (drop at laid_bytes) ≡ run
  part_between at run stands =
      let long : at + length run - at ≡ length run = omega arith in
      ap (λ (n : ℕ). take n (drop at laid_bytes)) long ∙ standing_part laid_bytes at run stands

  parts_are : parts_of laid_bytes laid_places ≡ p
  unfolding parts_of
  parts_are =
      rw (
        text_part_is laid_bytes code_at p.code (first_stands laid_bytes code_at (text_bytes p.code) from_signature code_stands),
        text_part_is laid_bytes signature_at p.signature
            (first_stands laid_bytes signature_at (text_bytes p.signature) from_tables signature_stands),
        part_between (members_at laid_bytes tables_place p right) p.members
            (first_stands laid_bytes (members_at laid_bytes tables_place p right) p.members _
            (members_stand laid_bytes tables_place p right tables_stand)),
        part_between (records_at laid_bytes tables_place p right) p.records
            (records_stand laid_bytes tables_place p right tables_stand),
      )

pub reads_back : ReadsBack
reads_back p right = (laid_places p right, of_short (case_bytes p) right.short ∙ places_read p right, parts_are p right)

-- ---- what is accepted is what its parts lay out to

-- bytes that stand at 0 and are as long as all are all
whole_is : (bytes run : List ℕ) → Stands bytes 0 run → length bytes ≤ length run → bytes ≡ run
whole_is bytes run stands short = of stands.rest stands.is
  where
    of : (rest : List ℕ) → bytes ≡ run ++ rest → bytes ≡ run
    of [] e = e ∙ append-nil run
    of (x ∷ rest) e = absurd (omega (arith, ap (length {A = ℕ}) e, length-append run (x ∷ rest)))

module _ (bytes : List ℕ) (are : AreBytes bytes) where
  -- parts that the bytes are laid out from
  record Laid : Type 0 where
    parts : Parts
    right : LaidOut parts
    is : bytes ≡ case_bytes parts

  -- the two runs with their counts, that a run passed
  record TablesBefore (following : Layout) (at end : ℕ) : Type 0 where
    member_count : ℕ
    members : List ℕ
    record_count : ℕ
    records : List ℕ
    member_count_fits : member_count ≤ greatest
    record_count_fits : record_count ≤ greatest
    member_run : MemberRun member_count members
    record_run : RecordRun record_count records
    stands : Stands bytes at (number_bytes member_count ++ (members ++ (number_bytes record_count ++ records)))
    onward :
        run_by following bytes (at + length (number_bytes member_count ++ (members ++ (number_bytes record_count ++ records)))) ≡ Ok end

  tables_back :
      (following : Layout) (at end : ℕ) → run_by (tables_then following) bytes at ≡ Ok end → TablesBefore following at end
  unfolding tables_then
  tables_back following at end e = of_count (number_back bytes are any (λ n. members_then n 0 after_members) at end e)
    where
      after_members : Layout
      after_members = number any (λ n. records_then n following)

      of_records :
          (count : NumberBefore bytes are any (λ n. members_then n 0 after_members) at end)
          (members : MembersBefore bytes are count.v 0 after_members (at + length (number_bytes count.v)) end)
          (record_count :
          NumberBefore bytes are any (λ n. records_then n following)
          (at + length (number_bytes count.v) + length (members_bytes members.members)) end) →
          RecordsBefore bytes are record_count.v following
          (at + length (number_bytes count.v) + length (members_bytes members.members) + length (number_bytes record_count.v)) end →
          TablesBefore following at end
      of_records count members record_count records =
          let members_at = at + length (number_bytes count.v) in
          let member_run = members_bytes members.members in
          let record_run = records_bytes records.locals in
          let from_count = number_bytes record_count.v ++ record_run in
          let ends :
          members_at + length member_run + length (number_bytes record_count.v) + length record_run
          ≡ at + length (number_bytes count.v ++ (member_run ++ from_count)) =
          omega (
            arith,
            length-append (number_bytes count.v) (member_run ++ from_count),
            length-append member_run from_count,
            length-append (number_bytes record_count.v) record_run,
          ) in
          record {
            member_count = count.v;
            members = member_run;
            record_count = record_count.v;
            records = record_run;
            member_count_fits = count.fits;
            record_count_fits = record_count.fits;
            member_run = record { members = members.members; right = members.right; counted = members.counted; bytes = refl };
            record_run = record { locals = records.locals; right = records.right; counted = records.counted; bytes = refl };
            stands =
                both_stand bytes at (number_bytes count.v) (member_run ++ from_count) count.stands
                (both_stand bytes members_at member_run from_count members.stands
                (both_stand bytes (members_at + length member_run) (number_bytes record_count.v) record_run
                record_count.stands records.stands));
            onward = ap (run_by following bytes) (sym ends) ∙ records.onward;
          }

      of_record_count :
          (count : NumberBefore bytes are any (λ n. members_then n 0 after_members) at end)
          (members : MembersBefore bytes are count.v 0 after_members (at + length (number_bytes count.v)) end) →
          NumberBefore bytes are any (λ n. records_then n following)
          (at + length (number_bytes count.v) + length (members_bytes members.members)) end →
          TablesBefore following at end
      of_record_count count members record_count =
          of_records count members record_count
          (records_back bytes are record_count.v following
          (at + length (number_bytes count.v) + length (members_bytes members.members) + length (number_bytes record_count.v)) end
          record_count.onward)

      of_members :
          (count : NumberBefore bytes are any (λ n. members_then n 0 after_members) at end) →
          MembersBefore bytes are count.v 0 after_members (at + length (number_bytes count.v)) end → TablesBefore following at end
      of_members count members =
          of_record_count count members
          (number_back bytes are any (λ n. records_then n following)
          (at + length (number_bytes count.v) + length (members_bytes members.members)) end members.onward)

      of_count : NumberBefore bytes are any (λ n. members_then n 0 after_members) at end → TablesBefore following at end
      of_count count =
          of_members count (members_back bytes are count.v 0 after_members (at + length (number_bytes count.v)) end count.onward)

  -- what stands from 0 to the end makes the parts
  assembled :
      (end flags fault : ℕ) (code signature : List ℕ) → flags ≤ greatest → fault ≤ greatest → length code ≤ greatest →
      length signature ≤ greatest → Stands bytes 0 (number_bytes flags) →
      Stands bytes (0 + length (number_bytes flags)) (number_bytes fault) →
      Stands bytes (0 + length (number_bytes flags) + length (number_bytes fault)) (text_bytes code) →
      Stands bytes (0 + length (number_bytes flags) + length (number_bytes fault) + length (text_bytes code)) (text_bytes signature) →
      TablesBefore ended
      (0 + length (number_bytes flags) + length (number_bytes fault) + length (text_bytes code) + length (text_bytes signature)) end →
      length bytes ≤ end → length bytes ≤ longest → Laid
  unfolding case_bytes run_by
  assembled end flags fault code signature flags_fit fault_fits code_fits signature_fits a b c d tables whole short =
      let p : Parts =
      record {
        flags = flags;
        fault = fault;
        code = code;
        signature = signature;
        member_count = tables.member_count;
        members = tables.members;
        record_count = tables.record_count;
        records = tables.records;
      } in
      let from_tables = number_bytes p.member_count ++ (p.members ++ (number_bytes p.record_count ++ p.records)) in
      let from_signature = text_bytes signature ++ from_tables in
      let from_code = text_bytes code ++ from_signature in
      let from_fault = number_bytes fault ++ from_code in
      let code_at = 0 + length (number_bytes flags) + length (number_bytes fault) in
      let stands : Stands bytes 0 (case_bytes p) =
      both_stand bytes 0 (number_bytes flags) from_fault a
      (both_stand bytes (0 + length (number_bytes flags)) (number_bytes fault) from_code b
      (both_stand bytes code_at (text_bytes code) from_signature c
      (both_stand bytes (code_at + length (text_bytes code)) (text_bytes signature) from_tables d tables.stands))) in
      let all : length (case_bytes p) ≡ end =
      omega (
        arith,
        ends_at _ end tables.onward,
        length-append (number_bytes flags) from_fault,
        length-append (number_bytes fault) from_code,
        length-append (text_bytes code) from_signature,
        length-append (text_bytes signature) from_tables,
      ) in
      let same : bytes ≡ case_bytes p = whole_is bytes (case_bytes p) stands (omega (arith, all)) in
      record {
        parts = p;
        right =
            record {
              flags = flags_fit;
              fault = fault_fits;
              code = code_fits;
              signature = signature_fits;
              member_count = tables.member_count_fits;
              members = tables.member_run;
              record_count = tables.record_count_fits;
              records = tables.record_run;
              short = omega (arith, ap (length {A = ℕ}) same);
            };
        is = same;
      }
    where
      ends_at : (a b : ℕ) → ◌≡◌ {A = Result ℕ ℕ} (Ok a) (Ok b) → a ≡ b
      ends_at a b q = cc

  -- a run of the whole layout that leaves no byte
  laid_by_run : (end : ℕ) → run_by case_layout bytes 0 ≡ Ok end → length bytes ≤ end → length bytes ≤ longest → Laid
  unfolding case_layout
  laid_by_run end e whole short = of_flags (number_back bytes are any (λ a. number any (λ b. text (text (tables_then ended)))) 0 end e)
    where
      of_signature :
          (flags : NumberBefore bytes are any (λ a. number any (λ b. text (text (tables_then ended)))) 0 end)
          (fault : NumberBefore bytes are any (λ b. text (text (tables_then ended))) (0 + length (number_bytes flags.v)) end)
          (code : TextBefore bytes are (text (tables_then ended)) (0 + length (number_bytes flags.v) + length (number_bytes fault.v)) end) →
          TextBefore bytes are (tables_then ended)
          (0 + length (number_bytes flags.v) + length (number_bytes fault.v) + length (text_bytes code.t)) end → Laid
      of_signature flags fault code signature =
          assembled end flags.v fault.v code.t signature.t flags.fits fault.fits code.fits signature.fits
          flags.stands fault.stands code.stands signature.stands (tables_back ended _ end signature.onward) whole short

      of_code :
          (flags : NumberBefore bytes are any (λ a. number any (λ b. text (text (tables_then ended)))) 0 end)
          (fault : NumberBefore bytes are any (λ b. text (text (tables_then ended))) (0 + length (number_bytes flags.v)) end) →
          TextBefore bytes are (text (tables_then ended)) (0 + length (number_bytes flags.v) + length (number_bytes fault.v)) end → Laid
      of_code flags fault code = of_signature flags fault code (text_back bytes are (tables_then ended) _ end code.onward)

      of_fault :
          (flags : NumberBefore bytes are any (λ a. number any (λ b. text (text (tables_then ended)))) 0 end) →
          NumberBefore bytes are any (λ b. text (text (tables_then ended))) (0 + length (number_bytes flags.v)) end → Laid
      of_fault flags fault = of_code flags fault (text_back bytes are (text (tables_then ended)) _ end fault.onward)

      of_flags : NumberBefore bytes are any (λ a. number any (λ b. text (text (tables_then ended)))) 0 end → Laid
      of_flags flags = of_fault flags (number_back bytes are any (λ b. text (text (tables_then ended))) _ end flags.onward)

  laid : (r : Result ℕ ℕ) → run_by case_layout bytes 0 ≡ r → on_run bytes r ≡ all_right → length bytes ≤ longest → Laid
  laid (Ok end) e right short = by_test (ltb end (length bytes)) refl right
    where
      by_test : (t : Bool) → ltb end (length bytes) ≡ t → pick t (wrong_at end) all_right ≡ all_right → Laid
      by_test true f q = let y : ◌≡◌ {A = ℕ} 0 1 = cc in absurd (omega arith)
      by_test false f q = laid_by_run end e (ltb-false end (length bytes) f) short
  laid (Err offset) e right short = let y : ◌≡◌ {A = ℕ} 0 1 = cc in absurd (omega arith)

-- the places answered are those of these parts
settled :
    (bytes : List ℕ) (places : Places) (p : Parts) → LaidOut p → bytes ≡ case_bytes p → case_of bytes ≡ Ok places →
    LaidOut (parts_of bytes places) × (bytes ≡ case_bytes (parts_of bytes places))
settled bytes places p right is e =
    let back = reads_back p right in
    let again : Ok places ≡ Ok back.0 = sym e ∙ ap case_of is ∙ back.1 in
    let same : places ≡ back.0 = cc in
    let parts : parts_of bytes places ≡ p = ap₂ parts_of is same ∙ back.2 in
    (subst (λ (q : Parts). LaidOut q) (sym parts) right, is ∙ ap case_bytes (sym parts))

pub accepted_is_laid_out : AcceptedIsLaidOut
accepted_is_laid_out bytes are places e =
    let case = fits_of bytes (Ok places) (λ q. let y : ◌≡◌ {A = ℕ} 0 1 = cc in omega arith) e in
    let from = laid bytes are (run_by case_layout bytes 0) refl (sym (case_run bytes) ∙ ap on_case case.1) case.0 in
    settled bytes places from.parts from.right from.is e
