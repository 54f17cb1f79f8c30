-- No constant program meets the contract: a few small cases are computed.
-- Assumes nothing.
use Prim.Native.Nat.{ℕ, ◌^◌, ◌<◌}
use native.Mathlib.Omega.{arith}
use mathlib.Core.Path.{◌≡◌, refl, ◌∙◌, sym, ap}
use mathlib.Core.List.{List, [], ◌∷◌}
use lib.Dec.{T, ltb}
use lib.ListN.{length, get_or}
use Rattle.basics.specs.Ascii.{ascii}
use Rattle.basics.proofs.Bytes.{all_below}
use Rattle.basics.proofs.Every.{every}
use Rattle.jvms.specs.Format.{format_of}
use Rattle.bytecode.specs.Length.{bytes_of, within, document_length, length_of}
use Rattle.fixed.specs.Fixed.{fixed_length}
use Rattle.greatest.specs.Greatest.{up_to, greatest}
use Rattle.leader.specs.Scan.{scan_from, instructions, scan_count, leaders_of, answered, block_leader}
use Rattle.branch.specs.Branch.{branch_of}
use Rattle.leader.specs.Targets.{leaders_at}
use Rattle.bytesearch.specs.Search.{first_in, first_from}
use Rattle.text.specs.Decimal.{digits, decimal}
use Rattle.text.specs.Writing.{over}
use Rattle.number.specs.Number.{number_from, number_at}
use Rattle.items.specs.Text.{text_at}
use Rattle.tables.specs.Layout.{members_then, records_then, run_by}
use Rattle.tables.specs.LocalRecord.{records_in}
use Rattle.casefile.specs.Parts.{parts_of}
use Rattle.casefile.specs.Whole.{tables_at, places_in, case_of}
use Rattle.effects.specs.Depth.{rule_of, depth_of}
use Rattle.effects.specs.Rows.{row_of}
use Rattle.walk.specs.Room.{completed_from, completed, block_walk_in}
use Rattle.walk.specs.Walk.{step, walk_from, walk}
use Rattle.fault.specs.Decoding.{action_of, decoded}
use Rattle.search.specs.Search.{first_match}
use Rattle.locals.specs.Name.{signature_parameter, numbered_name, local_name}
use Rattle.action.specs.Action.{action_text}
use Rattle.message.specs.Message.{cause_text, message_text}
use Rattle.answer.specs.Answer.{numbered}
use Rattle.locals.specs.Name.{is_instance}
use Rattle.report.specs.Report.{message_of, said_in, report_in, reported_by}
use Rattle.trace.specs.Trace.{slot_from}
use Rattle.answer.specs.declared.Report.TheVariants.{Message, Broken}
use Rattle.words.specs.declared.Wording.{Wording}
use Rattle.evidence.specs.Constant.{reading, throwing, reading_null, blank, SmallCases, Lent, Always, Program, Meets, number_of, NoConstant}

pub small_cases : (w : Wording) → SmallCases w
unfolding report_in reported_by case_of places_in tables_at text_at number_at number_from run_by members_then records_then parts_of
    said_in decoded depth_of rule_of action_of block_leader instructions scan_from scan_count leaders_of leaders_at branch_of
    answered greatest up_to length_of document_length within bytes_of format_of block_walk_in completed completed_from walk walk_from step
    row_of fixed_length slot_from message_of message_text action_text cause_text local_name records_in first_match
    signature_parameter first_from first_in numbered_name decimal digits is_instance over
small_cases w =
    record {
      reads = refl;
      reads_text = refl;
      throws = refl;
      throws_text = refl;
      reads_null = refl;
      returns = refl;
      broken = refl;
      stackless = refl;
      outless = refl;
    }

-- ---- what can be lent

-- a stack of one cell
abbrev cell : List ℕ
cell = 1 ∷ []

lent : (bytes : List ℕ) → T (every (λ i. ltb (get_or bytes i 0) 256) (length bytes)) → Lent bytes cell blank
lent bytes t =
    record { case = all_below 256 bytes tt t; cells = all_below (2 ^ 64) cell tt tt; output = all_below 256 blank tt tt }

-- ---- programs

module _ (w : Wording) (program : Program) (meets : Meets w program) where
  reads : program.answer reading cell blank ≡ Message 55 2 2 1
  reads = meets.answers reading cell blank (lent reading tt) ∙ (small_cases w).reads

  reads-text :
      program.output reading cell blank ≡ over (ascii "Cannot read the array length because \"<local0>\" is null") blank
  reads-text = meets.leaves reading cell blank (lent reading tt) ∙ (small_cases w).reads_text

  one_number : (n : ℕ) → Always (λ bytes stack out. number_of (program.answer bytes stack out) ≡ n) → ⊥
  unfolding numbered
  one_number n same =
      let message : 0 ≡ n = sym (ap number_of reads) ∙ same reading cell blank (lent reading tt) in
      let broken : program.answer [] cell blank ≡ Broken 0 =
      meets.answers [] cell blank (lent [] tt) ∙ (small_cases w).broken in
      let wrong : 2 ≡ n = sym (ap number_of broken) ∙ same [] cell blank (lent [] tt) in
      absurd (omega arith)

  one_kind :
      (k : ℕ) →
      Always (λ bytes stack out. (size kind scan block : ℕ) →
      program.answer bytes stack out ≡ Message size kind scan block → kind ≡ k) →
      ⊥
  one_kind k same =
      let two : 2 ≡ k = same reading cell blank (lent reading tt) 55 2 2 1 reads in
      let one : 1 ≡ k =
      same reading_null cell blank (lent reading_null tt) 28 1 2 1
      (meets.answers reading_null cell blank (lent reading_null tt) ∙ (small_cases w).reads_null) in
      absurd (omega arith)

  one_text :
      (text : List ℕ) →
      Always (λ bytes stack out. (size kind scan block : ℕ) →
      program.answer bytes stack out ≡ Message size kind scan block → program.output bytes stack out ≡ over text out) →
      ⊥
  unfolding over
  one_text text same =
      let first = sym (same reading cell blank (lent reading tt) 55 2 2 1 reads) ∙ reads-text in
      let throws : program.answer throwing cell blank ≡ Message 49 2 2 1 =
      meets.answers throwing cell blank (lent throwing tt) ∙ (small_cases w).throws in
      let second =
      sym (same throwing cell blank (lent throwing tt) 49 2 2 1 throws)
      ∙ meets.leaves throwing cell blank (lent throwing tt) ∙ (small_cases w).throws_text in
      -- "Cannot r", "Cannot t"
      let z : ◌≡◌ {A = ℕ} 114 116 = ap (λ (l : List ℕ). get_or l 7 0) (sym first ∙ second) in
      absurd (omega arith)

  same_output : Always (λ bytes stack out. program.output bytes stack out ≡ out) → ⊥
  unfolding over
  same_output same =
      let z : ◌≡◌ {A = ℕ} 0 67 =
      ap (λ (l : List ℕ). get_or l 0 0) (sym (same reading cell blank (lent reading tt)) ∙ reads-text) in
      absurd (omega arith)

  same_stack : Always (λ bytes stack out. program.stack bytes stack out ≡ stack) → ⊥
  same_stack same =
      let z : ◌≡◌ {A = ℕ} 1 0 =
      ap (λ (l : List ℕ). get_or l 0 0)
      (sym (same [] cell blank (lent [] tt)) ∙ meets.clears [] cell blank (lent [] tt)) in
      absurd (omega arith)

pub no_constant : NoConstant
no_constant w program meets =
    record {
      number = one_number w program meets;
      answer = λ r same.
          one_number w program meets (number_of r) (λ bytes stack out l. ap number_of (same bytes stack out l));
      kind = one_kind w program meets;
      text = one_text w program meets;
      output = same_output w program meets;
      stack = same_stack w program meets;
    }
