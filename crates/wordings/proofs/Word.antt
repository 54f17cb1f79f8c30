-- Two wordings differ in one word. What fails and its cause are the same; only the words of the action are looked at.
-- Assumes nothing.
use Rattle.std.specs.Prelude.{Option, Result, Err, Ok, Some, None}
use Prim.Native.Nat.{ℕ, zero, suc, ◌+◌, ◌-◌}
use native.Mathlib.Omega.{arith}
use mathlib.Core.Path.{◌≡◌, refl, ◌∙◌, sym, ap}
use mathlib.Core.Bool.{Bool}
use mathlib.Core.List.{List, ◌++◌}
use lib.Dec.{eqb}
use Rattle.cell.specs.declared.Load.{Load}
use Rattle.trace.specs.declared.Traced.{Traced}
use Rattle.basics.specs.Ascii.{ascii}
use Rattle.basics.specs.Bytes.{u16_at}
use Rattle.basics.specs.Choice.{pick, both, between}
use Rattle.basics.proofs.Choice.{chosen}
use Rattle.casefile.specs.Parts.{Parts}
use Rattle.effects.specs.Depth.{Depth, nowhere, at, depth_of}
use Rattle.effects.specs.Lookup.{lookup_in}
use Rattle.effects.specs.declared.Model.{Model}
use Rattle.fault.specs.Decoding.{invokes, action_of, constructs, failed_at, decoded}
use Rattle.fault.specs.declared.Action.{Action}
use Rattle.fault.specs.declared.Action.TheVariants.{ReadField, AssignField, Invoke, LoadArray, StoreArray, ReadLength, ThrowException, EnterBlock, ExitBlock}
use Rattle.fault.specs.declared.Fault.{Fault}
use Rattle.locals.specs.Name.{is_instance}
use Rattle.action.specs.Action.{action_text}
use Rattle.message.specs.Message.{cause_text, message_text}
use Rattle.answer.specs.Answer.{kind_of, silent, roomless, said}
use Rattle.report.specs.Report.{traced_in, message_of, said_by, said_at, said_in}
use Rattle.words.specs.Words.{element_text, array_text}
use Rattle.words.specs.Wording.{byte_text}
use Rattle.words.specs.declared.Wording.{Wording}
use Rattle.words.specs.declared.Wording.TheVariants.{Byte, ByteBoolean}
use Rattle.models.proofs.Actions.{silent_alike}
use Rattle.models.proofs.Elsewhere.{fault}
use Rattle.wordings.specs.Word.{in_wording1, in_wording2, Begins, loading, storing, faulting, ButThatWord, OnlyThatWord}

abbrev cause_of : Parts → Option Load → List ℕ
cause_of p cause = cause_text cause p.records p.record_count p.signature (is_instance p.flags)

-- ---- at the two opcodes

-- the action of the opcode, and its words
record Acts (op : ℕ) (begin : List ℕ) : Type 0 where
  action : Action
  fails : (d : Depth) (b : Bool) (index : ℕ) → pick (both (invokes op) b) None (failed_at d (action_of op index)) ≡ failed_at d action
  words :
      (w : Wording) (p : Parts) (cause : Option Load) → message_of w p action cause ≡ begin ++ (byte_text w ++ ascii " array") ++ cause_of p cause

acts : {op : ℕ} {begin : List ℕ} → Begins op begin → Acts op begin
unfolding action_of message_of message_text action_text array_text element_text
acts loading = record { action = LoadArray 5; fails = λ d b index. refl; words = λ w p cause. refl }
acts storing = record { action = StoreArray 5; fails = λ d b index. refl; words = λ w p cause. refl }

module _ (model : Model) (p : Parts) (room : ℕ) (begin : List ℕ) (a : Acts (faulting p) begin) (message : List ℕ)
    (kind scan block : ℕ) where
  decodes : fault p ≡ failed_at (depth_of (lookup_in p.members p.member_count) p.code p.fault) a.action
  unfolding decoded
  decodes =
      a.fails (depth_of (lookup_in p.members p.member_count) p.code p.fault)
      (constructs p.members p.member_count (u16_at p.code (p.fault + 1))) (u16_at p.code (p.fault + 1))

  by_trace :
      (t : Result Traced ℕ) → said_by Byte p a.action t ≡ said message kind scan block →
      (behind : List ℕ) × (message ≡ begin ++ ascii "byte array" ++ behind)
      × (said_by ByteBoolean p a.action t ≡ said (begin ++ ascii "byte/boolean array" ++ behind) kind scan block)
  by_trace (Err index) told = absurd cc
  by_trace (Ok t) told =
      let words : message_of Byte p a.action t.cause ≡ message = cc in
      let kinds : kind_of t.cause ≡ kind = cc in
      let scans : t.scan ≡ scan = cc in
      let counts : t.block ≡ block = cc in
      (cause_of p t.cause, sym words ∙ a.words Byte p t.cause, rw (a.words ByteBoolean p t.cause, kinds, scans, counts))

  by_depth :
      (d : Depth) → said_at (in_wording1 model) p room (failed_at d a.action) ≡ said message kind scan block →
      (behind : List ℕ) × (message ≡ begin ++ ascii "byte array" ++ behind)
      × (said_at (in_wording2 model) p room (failed_at d a.action)
      ≡ said (begin ++ ascii "byte/boolean array" ++ behind) kind scan block)
  by_depth nowhere told = absurd cc
  by_depth (at d) told = by_trace (traced_in model p d room) told

  that_word : said_in (in_wording1 model) p room ≡ said message kind scan block → ButThatWord model p room begin message kind scan block
  unfolding said_in
  that_word told =
      let found = by_depth (depth_of (lookup_in p.members p.member_count) p.code p.fault) (rw decodes at told) in
      record { behind = found.0; is = found.1; says = rw decodes found.2 }

-- ---- at every other opcode

element_alike : (element : ℕ) → (element ≡ 5 → ⊥) → element_text ByteBoolean element ≡ element_text Byte element
unfolding element_text
element_alike zero other = refl
element_alike (suc zero) other = refl
element_alike (suc (suc zero)) other = refl
element_alike (suc (suc (suc zero))) other = refl
element_alike (suc (suc (suc (suc zero)))) other = refl
element_alike (suc (suc (suc (suc (suc zero))))) other = absurd (other refl)
element_alike (suc (suc (suc (suc (suc (suc element)))))) other = refl

array_alike :
    (words : List ℕ) (element : ℕ) → (element ≡ 5 → ⊥) → array_text ByteBoolean words element ≡ array_text Byte words element
unfolding array_text
array_alike words element other = ap (λ (text : List ℕ). words ++ text ++ ascii " array") (element_alike element other)

module _ (p : Parts) where
  -- the words of an action are the same
  unfoldable Alike : Action → Type 0
  Alike action = action_text ByteBoolean p.members p.member_count action ≡ action_text Byte p.members p.member_count action

  action_alike : (op index : ℕ) → (op ≡ 51 → ⊥) → (op ≡ 84 → ⊥) → Alike (action_of op index)
  unfolding action_of action_text Alike
  action_alike op index load store =
      chosen Alike (eqb op 180) (ReadField index) _ refl
      (chosen Alike (eqb op 181) (AssignField index) _ refl
      (chosen Alike (invokes op) (Invoke index) _ refl
      (chosen Alike (between 46 53 op) (LoadArray (op - 46)) _
      (array_alike (ascii "Cannot load from ") (op - 46) (λ e. load (omega (arith, e))))
      (chosen Alike (between 79 86 op) (StoreArray (op - 79)) _
      (array_alike (ascii "Cannot store to ") (op - 79) (λ e. store (omega (arith, e))))
      (chosen Alike (eqb op 190) ReadLength _ refl
      (chosen Alike (eqb op 191) ThrowException _ refl
      (chosen Alike (eqb op 194) EnterBlock ExitBlock refl refl)))))))

  module _ (model : Model) (room : ℕ) where
    -- what is said of a fault is the same
    unfoldable Same : Option Fault → Type 0
    Same f = said_at (in_wording2 model) p room f ≡ said_at (in_wording1 model) p room f

    by_cause : (action : Action) → Alike action → (t : Result Traced ℕ) → said_by ByteBoolean p action t ≡ said_by Byte p action t
    unfolding message_of message_text Alike
    by_cause action same (Err index) = refl
    by_cause action same (Ok t) =
        ap (λ (text : List ℕ). said (text ++ cause_of p t.cause) (kind_of t.cause) t.scan t.block) same

    by_action : (action : Action) → Alike action → (d : Depth) → Same (failed_at d action)
    unfolding Same
    by_action action same nowhere = refl
    by_action action same (at d) = by_cause action same (traced_in model p d room)

    same_said : (faulting p ≡ 51 → ⊥) → (faulting p ≡ 84 → ⊥) → said_in (in_wording2 model) p room ≡ said_in (in_wording1 model) p room
    unfolding said_in decoded Same
    same_said load store =
        let index = u16_at p.code (p.fault + 1) in
        let deep = depth_of (lookup_in p.members p.member_count) p.code p.fault in
        chosen Same (both (invokes (faulting p)) (constructs p.members p.member_count index)) None
        (failed_at deep (action_of (faulting p) index)) refl
        (by_action (action_of (faulting p) index) (action_alike (faulting p) index load store) deep)

    -- ---- no room

    lacking_trace :
        (action : Action) (t : Result Traced ℕ) (index : ℕ) → said_by Byte p action t ≡ roomless index → said_by ByteBoolean p action t ≡ roomless index
    lacking_trace action (Err other) index e = e
    lacking_trace action (Ok t) index e = absurd cc

    lacking_fault : (f : Option Fault) (index : ℕ) → said_at (in_wording1 model) p room f ≡ roomless index → said_at (in_wording2 model) p room f ≡ roomless index
    lacking_fault None index e = e
    lacking_fault (Some fault) index e = lacking_trace fault.action (traced_in model p fault.depth room) index e

    lacking_said : (index : ℕ) → said_in (in_wording1 model) p room ≡ roomless index → said_in (in_wording2 model) p room ≡ roomless index
    unfolding said_in
    lacking_said index e = lacking_fault (fault p) index e

pub only_that_word : (model : Model) (p : Parts) (room : ℕ) → OnlyThatWord model p room
only_that_word model p room =
    record {
      there = λ begin begins. that_word model p room begin (acts begins);
      elsewhere = λ other.
          same_said p model room (λ e. other (ascii "Cannot load from ") (rw e loading))
          (λ e. other (ascii "Cannot store to ") (rw e storing));
      nothing = λ e. silent_alike (in_wording1 model) (in_wording2 model) p room room e;
      lacking = lacking_said p model room;
    }
