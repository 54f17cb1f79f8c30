-- "A name must be evidence" (tender, condition 3), of the report itself: where the message names a local, the value that the
-- faulting instruction would dereference is the one that this local held when it was loaded. So where that value is null, the
-- local was null, as the message says. Of a report in any manner: "demand 3 holds for both" models (document 02,
-- request 1), and for both wordings (request 11).
-- proofs/Evidence.antt has its proof.
-- As condition 3, it does not cover handler entries: an exception handler that begins inside the block enters it too.
-- Assumes nothing.
use Rattle.std.specs.Prelude.{ℕ, ◌≤◌, ◌<◌, ◌≡◌, List, [], ◌∷◌, ◌++◌, length, Ok}
use Rattle.basics.specs.Ascii.{ascii}
use Rattle.basics.specs.Bytes.{AreBytes}
use Rattle.basics.specs.Member.{◌∈◌}
use Rattle.jvms.specs.Branch.{landings_at}
use Rattle.jvms.specs.Machine.{Pool, State, target}
use Rattle.bytecode.specs.Rule.{length_rule}
use Rattle.leader.specs.Scan.{led_to}
use Rattle.leaders.specs.Leader.{Reached}
use Rattle.casefile.specs.Parts.{Parts, parts_of}
use Rattle.casefile.specs.Whole.{case_of}
use Rattle.casefile.specs.declared.Places.{Places}
use Rattle.text.specs.Writing.{over}
use Rattle.effects.specs.Lookup.{lookup_in}
use Rattle.fault.specs.Decoding.{decoded, faulted}
use Rattle.fault.specs.declared.Action.{Action}
use Rattle.locals.specs.Name.{local_name}
use Rattle.action.specs.Action.{action_text}
use Rattle.answer.specs.Answer.{said}
use Rattle.locals.specs.Name.{is_instance}
use Rattle.report.specs.Report.{scan_of, said_in, report_in, reported_by}
use Rattle.report.specs.declared.Manner.{Manner}
use Rattle.answer.specs.declared.Report.TheVariants.{Message}
use Rattle.truth.specs.Condition.{InBlock, Described}
use Rattle.truth.specs.Translation.{since, HeldWhen}
use Rattle.words.specs.declared.Wording.{Wording}

-- ---- what is supposed

-- "the descriptors of walk and fault are well formed": those that the block cites, up to the fault and at it, are written
-- from the pool's trees
abbrev pub WellDescribed : Parts → Pool → Type 0
WellDescribed p pool =
    (leader scan pc : ℕ) → scan_of p ≡ led_to leader scan → InBlock p.code leader pc →
    pc ≤ p.fault → Described (lookup_in p.members p.member_count) pool p.code pc

-- ---- what is shown

-- The machine has run the block to the fault. The instruction there would dereference one value, and that value is what the
-- local held when the instruction at the load's index ran.
pub record Proven {Val : Type 0} (p : Parts) (pool : Pool) (machine : ℕ → State Val) (block load local : ℕ) : Type 0 where
  pub reached : (machine block).pc ≡ p.fault
  pub value : Val
  pub dereferenced : target pool p.code (machine block) ≡ value ∷ []
  pub loaded : HeldWhen machine block load local value

pub record Evidence (wording : Wording) (p : Parts) (pool : Pool) (message : List ℕ) (scan block : ℕ) : Type 1 where
  pub action : Action
  pub depth : ℕ
  pub leader : ℕ
  pub load : ℕ
  pub local : ℕ
  -- the action is the fault's
  pub decodes : decoded p.code p.members p.member_count p.fault ≡ faulted action depth
  -- the message: the action in the wording, and the name of the local as it stands at its load
  pub words :
      message
      ≡ action_text wording p.members p.member_count action
      ++ (ascii " because \"" ++ local_name p.records p.record_count p.signature (is_instance p.flags) local load
      ++ ascii "\" is null")
  -- the block begins at its leader, and nothing that the scan knows lands between that and the fault
  pub leads : scan_of p ≡ led_to leader scan
  pub nothing_lands :
      (pc x : ℕ) → Reached length_rule p.code pc → x ∈ landings_at p.code pc → leader < x → x ≤ p.fault → ⊥
  -- "from any entering stack, locals and opaque results", over any values
  pub proven :
      (Val : Type 0) (opaque : ℕ → ℕ → Val) (entering : List Val) (locals : ℕ → Val) →
      Proven p pool (since pool p.code opaque leader entering locals) block load local

-- of the parts of a case, where the kind is 2
abbrev pub NameIsEvidence : Type 1
NameIsEvidence =
    (manner : Manner) (p : Parts) (pool : Pool) (room : ℕ) (message : List ℕ) (scan block : ℕ) → AreBytes p.code →
    WellDescribed p pool → said_in manner p room ≡ said message 2 scan block → Evidence manner.wording p pool message scan block

-- ---- a whole case

-- the message that the output starts with
pub record Reported (manner : Manner) (bytes : List ℕ) (places : Places) (pool : Pool) (room : ℕ) (out : List ℕ)
    (size scan block : ℕ) : Type 1 where
  pub message : List ℕ
  pub sized : size ≡ length message
  pub written : reported_by manner bytes room out ≡ over message out
  pub evidence : Evidence manner.wording (parts_of bytes places) pool message scan block

-- what `build_message` and `build_message_in` answer and leave, by their contracts: where the kind is 2, the output starts with a
-- message whose name is evidence
abbrev pub ReportIsEvidence : Type 1
ReportIsEvidence =
    (manner : Manner) (bytes : List ℕ) (places : Places) (pool : Pool) (room : ℕ) (out : List ℕ) (size scan block : ℕ) →
    AreBytes bytes → case_of bytes ≡ Ok places → WellDescribed (parts_of bytes places) pool →
    report_in manner bytes room (length out) ≡ Message size 2 scan block →
    Reported manner bytes places pool room out size scan block
