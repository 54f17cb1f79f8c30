-- A name is evidence. Rests on condition 3 and on when the kind is 2.
-- Assumes nothing.
use Rattle.std.specs.Prelude.{Ok, None, Option, Some}
use Prim.Native.Nat.{ℕ, zero, suc, ◌+◌, ◌-◌, ◌<◌}
use native.Mathlib.Omega.{arith}
use mathlib.Core.Path.{◌≡◌, refl, ◌∙◌, sym, ap}
use mathlib.Core.Bool.{Bool, true, false}
use mathlib.Core.List.{List, [], ◌∷◌}
use lib.Dec.{ltb, lit<}
use lib.ListN.{length, get_or, take, drop, replicate}
use lib.Seq.{get_or-take, take_at}
use borrow.Author.Tests.{ltb-true}
use Rattle.basics.specs.Bytes.{byte_at, u16_at, AreBytes}
use Rattle.basics.specs.Choice.{pick, both}
use Rattle.jvms.specs.Machine.{Pool}
use Rattle.casefile.specs.Parts.{Parts, parts_of}
use Rattle.casefile.specs.Whole.{case_of}
use Rattle.casefile.specs.declared.Places.{Places}
use Rattle.cases.proofs.Reading.{bytes_behind}
use Rattle.effects.specs.Depth.{Depth, nowhere, at, rule_of, depth_by, depth_of}
use Rattle.effects.specs.Lookup.{lookup_in}
use Rattle.cell.specs.Cell.{cell_of}
use Rattle.cell.proofs.Laws.{cell_of_unpacked}
use Rattle.walk.specs.Room.{answer_of, shown, cells_of}
use Rattle.fault.specs.Decoding.{invokes, action_of, constructs, failed_at, decoded, faulted}
use Rattle.fault.specs.declared.Fault.{Fault}
use Rattle.fault.specs.declared.Action.{Action}
use Rattle.message.specs.Message.{cause_text, message_text}
use Rattle.report.specs.Report.{message_of, report_in}
use Rattle.report.specs.declared.Manner.{Manner}
use Rattle.answer.specs.declared.Report.TheVariants.{Message}
use Rattle.truth.specs.Condition.{Findings, Premises}
use Rattle.truth.specs.Translation.{since}
use Rattle.truth.proofs.Cause.{cause_true}
use Rattle.truth.proofs.Condition.{condition_3}
use Rattle.evidence.specs.Evidence.{WellDescribed, Proven, Evidence, NameIsEvidence, Reported, ReportIsEvidence}
use Rattle.evidence.specs.Kind.{CausedIn}
use Rattle.evidence.proofs.Delivered.{delivers}
use Rattle.evidence.proofs.Kind.{kind_two_in}

-- ---- a fault that is decoded lies in the code

abbrev depth_or_zero : Option Fault → ℕ
depth_or_zero None = 0
depth_or_zero (Some f) = f.depth

failed-at :
    (b : Bool) (d : Depth) (a action : Action) (depth : ℕ) → pick b None (failed_at d a) ≡ faulted action depth →
    d ≡ at depth
failed-at true d a action depth e = let z : ◌≡◌ {A = ℕ} 0 1 = cc in absurd (omega arith)
failed-at false nowhere a action depth e = let z : ◌≡◌ {A = ℕ} 0 1 = cc in absurd (omega arith)
failed-at false (at d) a action depth e = ap at (ap depth_or_zero e)

not_cut : (b : Bool) (d : Depth) (depth : ℕ) → pick b d nowhere ≡ at depth → b ≡ true
not_cut true d depth e = refl
not_cut false d depth e = let z : ◌≡◌ {A = ℕ} 0 1 = cc in absurd (omega arith)

module _ (code members : List ℕ) (count fault depth : ℕ) (action : Action) where
  depth_is : decoded code members count fault ≡ faulted action depth → depth_of (lookup_in members count) code fault ≡ at depth
  unfolding decoded
  depth_is e =
      failed-at (both (invokes (byte_at code fault)) (constructs members count (u16_at code (fault + 1))))
      (depth_of (lookup_in members count) code fault) (action_of (byte_at code fault) (u16_at code (fault + 1))) action depth e

  inside_is : depth_of (lookup_in members count) code fault ≡ at depth → fault < length code
  unfolding depth_of
  inside_is e =
      ltb-true fault (length code)
      (not_cut (ltb fault (length code)) (depth_by (rule_of (byte_at code fault)) (lookup_in members count) code fault) depth e)

-- a slot in the cells that show a slot list
shown_at : (room : ℕ) (slots : List ℕ) (k : ℕ) → k < length slots → get_or (shown room slots) k 0 ≡ get_or slots k 0
shown_at room slots k below =
    sym (get_or-take (length slots) (shown room slots) k 0 below)
    ∙ ap (λ (l : List ℕ). get_or l k 0) (take_at slots (replicate (room - length slots) 0) (length slots) refl)

-- ---- the parts of a case

module _ (manner : Manner) (p : Parts) (pool : Pool) (room : ℕ) (message : List ℕ) (scan block : ℕ) (bytes : AreBytes p.code)
    (described : WellDescribed p pool) (c : CausedIn manner p room message scan block) where
  -- what condition 3 is asked of
  abbrev asked : Findings
  asked =
      record {
        model = manner.model;
        code = p.code;
        members = p.members;
        member_count = p.member_count;
        fault = p.fault;
        leader = c.leader;
        height = length c.slots;
        count = block;
        stack = shown room c.slots;
      }

  deep : depth_of (lookup_in p.members p.member_count) p.code p.fault ≡ at c.depth
  deep = depth_is p.code p.members p.member_count p.fault c.depth c.action c.decodes

  premises : Premises asked pool
  premises =
      record {
        bytes = bytes;
        scan = scan;
        measured = c.leads;
        inside = inside_is p.code p.members p.member_count p.fault c.depth c.action deep;
        room = room;
        walked = ap answer_of c.walks;
        left = sym (ap (cells_of room) c.walks);
        described = λ pc here below. described c.leader scan pc c.leads here below;
      }

  marked : (get_or c.slots (length c.slots - 1 - c.depth) 0 ≡ cell_of c.load c.local) × (c.local < 65536)
  marked = cell_of_unpacked (get_or c.slots (length c.slots - 1 - c.depth) 0) c.load c.local c.slot

  proven :
      (Val : Type 0) (opaque : ℕ → ℕ → Val) (entering : List Val) (locals : ℕ → Val) →
      Proven p pool (since pool p.code opaque c.leader entering locals) block c.load c.local
  proven Val opaque entering locals =
      let k : ℕ = length c.slots - 1 - c.depth in
      let here : get_or (shown room c.slots) k 0 ≡ cell_of c.load c.local =
      shown_at room c.slots k (omega (arith, c.high)) ∙ marked.0 in
      let cause =
      cause_true asked pool premises c.depth c.load c.local deep c.high marked.1 here Val opaque entering
      locals in
      record {
        reached = ((condition_3 asked pool premises).translated Val opaque entering locals).reached;
        value = cause.0;
        dereferenced = cause.1;
        loaded = cause.2;
      }

  is_evidence : Evidence manner.wording p pool message scan block
  unfolding message_of message_text cause_text
  is_evidence =
      record {
        action = c.action;
        depth = c.depth;
        leader = c.leader;
        load = c.load;
        local = c.local;
        decodes = c.decodes;
        words = c.words;
        leads = c.leads;
        nothing_lands = (condition_3 asked pool premises).nothing_lands;
        proven = proven;
      }

pub name_is_evidence : NameIsEvidence
name_is_evidence manner p pool room message scan block bytes described told =
    is_evidence manner p pool room message scan block bytes described
    ((kind_two_in manner).only p room message scan block told)

-- ---- a whole case

bytes_before : (n : ℕ) (bytes : List ℕ) → AreBytes bytes → AreBytes (take n bytes)
bytes_before zero bytes are i = lit< tt
bytes_before (suc n) [] are i = lit< tt
bytes_before (suc n) (x ∷ bytes) are zero = are 0
bytes_before (suc n) (x ∷ bytes) are (suc i) = bytes_before n bytes (λ j. are (suc j)) i

pub code_bytes : (bytes : List ℕ) (places : Places) → AreBytes bytes → AreBytes (parts_of bytes places).code
unfolding parts_of
code_bytes bytes places are =
    bytes_before places.code_length (drop places.code bytes) (bytes_behind bytes places.code are)

module _ (manner : Manner) (bytes : List ℕ) (places : Places) (pool : Pool) (room : ℕ) (out : List ℕ) (size scan block : ℕ)
    (are : AreBytes bytes) (reads : case_of bytes ≡ Ok places)
    (described : WellDescribed (parts_of bytes places) pool) where
  abbrev p : Parts
  p = parts_of bytes places

  is_reported :
      report_in manner bytes room (length out) ≡ Message size 2 scan block →
      Reported manner bytes places pool room out size scan block
  is_reported answer =
      let d = delivers manner bytes places reads room out size 2 scan block answer in
      record {
        message = d.message;
        sized = d.sized;
        written = d.written;
        evidence = name_is_evidence manner p pool room d.message scan block (code_bytes bytes places are) described d.says;
      }

pub report_is_evidence : ReportIsEvidence
report_is_evidence = is_reported
