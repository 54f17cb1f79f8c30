-- A walk and a report in document 01's model are what they would be by document 01's cells: the walks go alike, and slots that hold the
-- same give one cause.
-- Assumes nothing.
use Rattle.std.specs.Prelude.{None, Result, Ok, Err, Option, Some}
use Prim.Native.Nat.{ℕ, ◌-◌, ◌^◌, ◌≤◌, ◌<◌}
use native.Mathlib.Omega.{arith}
use mathlib.Core.Path.{◌≡◌, refl, ◌∙◌, sym, ap}
use mathlib.Core.Bool.{Bool, true, false}
use mathlib.Core.List.{List, [], ◌∷◌}
use lib.Dec.{leb, ltb}
use lib.ListN.{length, get_or, drop, length-take, length-drop}
use borrow.Author.Tests.{ltb-true}
use Rattle.basics.specs.Bytes.{AreBytes}
use Rattle.basics.specs.Choice.{pick}
use Rattle.basics.specs.Each.{Each}
use Rattle.basics.proofs.Each.{each_length, each_at}
use Rattle.casefile.specs.Parts.{Parts, parts_of}
use Rattle.casefile.specs.Whole.{longest, case_of}
use Rattle.casefile.specs.declared.CaseError.{CaseError}
use Rattle.casefile.specs.declared.CaseError.TheVariants as cases
use Rattle.casefile.specs.declared.Places.{Places}
use Rattle.cases.proofs.Declared.{fits_of}
use Rattle.cell.specs.Cell.{unpacked}
use Rattle.effects.specs.Lookup.{lookup_in}
use Rattle.effects.specs.Rows.{row_of}
use Rattle.effects.specs.declared.Model.TheVariants.{Document}
use Rattle.walk.specs.Room.{Completed, Roomed, lacks, fits, completed, judged, block_walk, block_walk_in}
use Rattle.walk.specs.Room.{answer_of as walk_answer}
use Rattle.walk.specs.declared.Walk.TheVariants.{Done}
use Rattle.walk.specs.Walk.{cells, Walked, done, failed, walk}
use Rattle.walks.specs.Cells.{document_cells, document_unpacked, SameSlot}
use Rattle.walks.specs.Marks.{EndAlike, both_done, both_failed}
use Rattle.walks.proofs.Cells.{present_walks}
use Rattle.trace.specs.Trace.{slot_from, trace_of, traced_with}
use Rattle.fault.specs.Decoding.{decoded}
use Rattle.fault.specs.declared.Fault.{Fault}
use Rattle.answer.specs.Answer.{Said, answer_by, output_by}
use Rattle.report.specs.Report.{manner_of, scan_of, traced_from, said_by, said_at, said_in, answer_of, output_of, report_in, reported_by}
use Rattle.evidence.proofs.Evidence.{code_bytes}
use Rattle.words.specs.declared.Wording.{Wording}
use Rattle.models.specs.Cells.{former_walk, former_slot, former_trace, former_traced, former_said_at, former_said, former_answer, former_output, PresentUnmoved}
use Rattle.leader.specs.declared.Scanned.{Scanned}

-- ---- a cause

slot_same : {former slots : List ℕ} → Each SameSlot former slots → (depth : ℕ) → slot_from slots depth ≡ former_slot former depth
unfolding slot_from
slot_same {former} {slots} each depth = rw (each_length each) (by_test (ltb depth (length slots)) refl)
  where
    by_test :
        (b : Bool) → ltb depth (length slots) ≡ b →
        pick b (unpacked (get_or slots (length slots - 1 - depth) 0)) None
        ≡ pick b (document_unpacked (get_or former (length slots - 1 - depth) 0)) None
    by_test true e =
        let inside : length slots - 1 - depth < length former = omega (arith, each_length each, ltb-true depth (length slots) e) in
        sym (each_at each (length slots - 1 - depth) inside 0 0)
    by_test false e = refl

end_same :
    (scan depth : ℕ) {former walked : Walked ℕ} → EndAlike SameSlot former walked →
    trace_of scan depth (fits walked) ≡ former_trace scan depth (fits former)
end_same scan depth (both_done {slots} {others} {count} each) = ap (traced_with scan count) (slot_same each depth)
end_same scan depth both_failed = refl

-- ---- an answer

answer_same : {former walked : Walked ℕ} → EndAlike SameSlot former walked → walk_answer (fits walked) ≡ walk_answer (fits former)
answer_same (both_done {slots} {others} {count} each) = ap (λ (height : ℕ). Done height count) (sym (each_length each))
answer_same both_failed = refl

-- ---- and so in any room

module _ {B : Type 0} (now former : Roomed ℕ → B) (none : (index : ℕ) → now (lacks index) ≡ former (lacks index)) (room : ℕ)
    (w v : Walked ℕ) (ends : now (fits w) ≡ former (fits v)) where
  judged_same : (cs : List Completed) → now (judged room cs w) ≡ former (judged room cs v)
  judged_same [] = ends
  judged_same (c ∷ cs) = by_room (leb c.height room) (judged_same cs)
    where
      by_room :
          (b : Bool) → now (judged room cs w) ≡ former (judged room cs v) →
          now (pick b (judged room cs w) (lacks c.index)) ≡ former (pick b (judged room cs v) (lacks c.index))
      by_room true rest = rest
      by_room false rest = none c.index

module _ (code members : List ℕ) (are : AreBytes code) (short : length code ≤ 2 ^ 48) (count leader fault room : ℕ) where
  -- what is made of either walk is the same, where it is of its ends
  walks_same :
      {B : Type 0} (now former : Roomed ℕ → B) → ((index : ℕ) → now (lacks index) ≡ former (lacks index)) →
      ((v w : Walked ℕ) → EndAlike SameSlot v w → now (fits w) ≡ former (fits v)) →
      now (block_walk code members count leader fault room) ≡ former (former_walk code members count leader fault room)
  unfolding block_walk_in
  walks_same now former none ends =
      let lookup = lookup_in members count in
      let alike = present_walks lookup code are short fault leader in
      let before : Walked ℕ = walk document_cells row_of lookup code fault leader in
      let present : Walked ℕ = walk cells row_of lookup code fault leader in
      judged_same now former none room present before (ends before present alike.0)
      (completed cells row_of lookup code fault leader)
      ∙ ap (λ (cs : List Completed). former (judged room cs before)) (sym alike.1)

-- ---- parts

module _ (p : Parts) (are : AreBytes p.code) (short : length p.code ≤ 2 ^ 48) where
  traced_same : (depth room : ℕ) (scan : Result Scanned Scanned) → traced_from Document scan p depth room ≡ former_traced p depth room scan
  traced_same depth room (Ok s) =
      walks_same p.code p.members are short p.member_count s.at p.fault room (trace_of s.count depth) (former_trace s.count depth)
      (λ index. refl) (λ v w alike. end_same s.count depth alike)
  traced_same depth room (Err s) = refl

  said-at :
      (w : Wording) (room : ℕ) (fault : Option Fault) → said_at (manner_of Document w) p room fault ≡ former_said_at w p room fault
  said-at w room None = refl
  said-at w room (Some fault) = ap (said_by w p fault.action) (traced_same fault.depth room (scan_of p))

  said_same : (w : Wording) (room : ℕ) → said_in (manner_of Document w) p room ≡ former_said w p room
  unfolding said_in
  said_same w room = said-at w room (decoded p.code p.members p.member_count p.fault)

-- ---- cases

-- the code of a case is no longer than the case
module _ (bytes : List ℕ) (are : AreBytes bytes) (places : Places) (reads : case_of bytes ≡ Ok places) where
  few_bytes : length bytes ≤ longest
  few_bytes = (fits_of bytes (Ok places) (λ e. let z : ◌≡◌ {A = ℕ} 0 1 = cc in absurd (omega arith)) reads).0

  short_code : length (parts_of bytes places).code ≤ 2 ^ 48
  unfolding parts_of
  short_code =
      omega (arith, few_bytes, length-take places.code_length (drop places.code bytes), length-drop places.code bytes)

  case_same :
      (w : Wording) (room : ℕ) → said_in (manner_of Document w) (parts_of bytes places) room ≡ former_said w (parts_of bytes places) room
  case_same = said_same (parts_of bytes places) (code_bytes bytes places are) short_code

module _ (w : Wording) (bytes : List ℕ) (are : AreBytes bytes) (room : ℕ) where
  answers_same :
      (out_room : ℕ) (c : Result Places CaseError) → case_of bytes ≡ c → answer_of (manner_of Document w) bytes room out_room c ≡ former_answer w bytes room out_room c
  answers_same out_room (Ok places) reads = ap (λ (told : Said). answer_by told out_room) (case_same bytes are places reads w room)
  answers_same out_room (Err (cases.Wrong offset)) reads = refl
  answers_same out_room (Err cases.TooLong) reads = refl

  outputs_same :
      (out : List ℕ) (c : Result Places CaseError) → case_of bytes ≡ c → output_of (manner_of Document w) bytes room out c ≡ former_output w bytes room out c
  outputs_same out (Ok places) reads = ap (λ (told : Said). output_by told out) (case_same bytes are places reads w room)
  outputs_same out (Err error) reads = refl

pub present_unmoved : PresentUnmoved
unfolding report_in reported_by
present_unmoved =
    record {
      walks = λ code members are short count leader fault room.
          walks_same code members are short count leader fault room walk_answer walk_answer (λ index. refl) (λ v w alike. answer_same alike);
      said = λ w p are short. said_same p are short w;
      answers = λ w bytes are room out_room. answers_same w bytes are room out_room (case_of bytes) refl;
      outputs = λ w bytes are room out. outputs_same w bytes are room out (case_of bytes) refl;
    }
