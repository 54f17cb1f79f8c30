-- The kind of a message is 2 exactly where a cause is given, and else 1.
-- Assumes nothing.
use Rattle.std.specs.Prelude.{Option, None, Some, Result, Ok, Err}
use Prim.Native.Nat.{ℕ, ◌-◌}
use native.Mathlib.Omega.{arith}
use mathlib.Core.Path.{◌≡◌, refl, ◌∙◌, sym, ap}
use mathlib.Core.Bool.{Bool, true, false}
use mathlib.Core.List.{List, append-nil}
use mathlib.Core.Logic.{◌⊎◌, inl, inr}
use lib.Dec.{ltb}
use lib.ListN.{length, get_or}
use borrow.Author.Tests.{ltb-true, lt-ltb}
use Rattle.basics.specs.Choice.{pick}
use Rattle.casefile.specs.Parts.{Parts}
use Rattle.cell.specs.Cell.{unpacked}
use Rattle.cell.specs.declared.Load.{Load}
use Rattle.walk.specs.Room.{Roomed, lacks, fits, block_walk_in}
use Rattle.walk.specs.Walk.{done, failed}
use Rattle.fault.specs.Decoding.{decoded, faulted}
use Rattle.fault.specs.declared.Action.{Action}
use Rattle.fault.specs.declared.Fault.{Fault}
use Rattle.action.specs.Action.{action_text}
use Rattle.message.specs.Message.{cause_text, message_text}
use Rattle.answer.specs.Answer.{kind_of, Said, said}
use Rattle.report.specs.Report.{document_manner, scan_of, traced_in, message_of, said_by, said_at, said_in}
use Rattle.report.specs.declared.Manner.{Manner}
use Rattle.trace.specs.Trace.{slot_from, trace_of, traced_by}
use Rattle.words.specs.declared.Wording.{Wording}
use Rattle.evidence.specs.Kind.{CausedIn, KindTwoIn, KindTwo, ActionAlone, OneOrTwoIn, OneOrTwo}
use Rattle.leader.specs.declared.Scanned.{Scanned}
use Rattle.leader.specs.Scan.{led_to}
use Rattle.trace.specs.declared.Traced.{Traced}

-- ---- kind 2 has a cause: what is said is taken apart, from the fault to the slot

module _ (manner : Manner) (p : Parts) (room : ℕ) (message : List ℕ) (scan block : ℕ) where
  abbrev Two : Said → Type 0
  Two told = told ≡ said message 2 scan block

  module _ (action : Action) (depth : ℕ)
      (decodes : decoded p.code p.members p.member_count p.fault ≡ faulted action depth) where
    module _ (leader scanned : ℕ) (leads : scan_of p ≡ led_to leader scanned) where
      module _ (slots : List ℕ) (count : ℕ)
          (walks :
          block_walk_in manner.model p.code p.members p.member_count leader p.fault room ≡ fits (done slots count)) where
        abbrev found : Option Load
        found = unpacked (get_or slots (length slots - 1 - depth) 0)

        by_slot :
            (slot : Option Load) → found ≡ slot → ltb depth (length slots) ≡ true →
            Two (said (message_of manner.wording p action slot) (kind_of slot) scanned count) → CausedIn manner p room message scan block
        by_slot None e high told = absurd cc
        by_slot (Some l) e high told =
            let words : message_of manner.wording p action (Some l) ≡ message = cc in
            let scans : scanned ≡ scan = cc in
            let counts : count ≡ block = cc in
            record {
              action = action;
              depth = depth;
              leader = leader;
              slots = slots;
              load = l.load;
              local = l.local;
              decodes = decodes;
              leads = leads ∙ ap (led_to leader) scans;
              walks = walks ∙ ap (λ (n : ℕ). fits (done slots n)) counts;
              high = omega (arith, ltb-true depth (length slots) high);
              slot = e;
              words = sym words;
            }

        by_height :
            (b : Bool) → ltb depth (length slots) ≡ b →
            Two (said (message_of manner.wording p action (pick b found None)) (kind_of (pick b found None)) scanned count) →
            CausedIn manner p room message scan block
        by_height true e told = by_slot found refl e told
        by_height false e told = absurd cc

      by_walk :
          (walked : Roomed ℕ) → block_walk_in manner.model p.code p.members p.member_count leader p.fault room ≡ walked →
          Two (said_by manner.wording p action (trace_of scanned depth walked)) → CausedIn manner p room message scan block
      unfolding slot_from
      by_walk (lacks index) e told = absurd cc
      by_walk (fits (failed count index reason)) e told = absurd cc
      by_walk (fits (done slots count)) e told = by_height slots count e (ltb depth (length slots)) refl told

    by_scan :
        (x : Result Scanned Scanned) → scan_of p ≡ x →
        Two (said_by manner.wording p action (traced_by manner.model p.code p.members p.member_count p.fault depth room x)) →
        CausedIn manner p room message scan block
    by_scan (Ok s) e told =
        by_walk s.at s.count e (block_walk_in manner.model p.code p.members p.member_count s.at p.fault room) refl told
    by_scan (Err s) e told = absurd cc

  by_fault :
      (fault : Option Fault) → decoded p.code p.members p.member_count p.fault ≡ fault → Two (said_at manner p room fault) →
      CausedIn manner p room message scan block
  by_fault None e told = absurd cc
  by_fault (Some f) e told = by_scan f.action f.depth e (scan_of p) refl told

  has_cause : Two (said_in manner p room) → CausedIn manner p room message scan block
  unfolding said_in
  has_cause told = by_fault (decoded p.code p.members p.member_count p.fault) refl told

  -- ---- a cause makes kind 2

  is_two : CausedIn manner p room message scan block → Two (said_in manner p room)
  unfolding said_in slot_from
  is_two c =
      rw (c.decodes, c.leads, c.walks, lt-ltb c.depth (length c.slots) (omega (arith, c.high)), c.slot)
      (ap (λ (text : List ℕ). said text 2 scan block) (sym c.words))

pub kind_two_in : (manner : Manner) → KindTwoIn manner
kind_two_in manner = record { only = has_cause manner; always = is_two manner }

pub kind_two : KindTwo
kind_two = kind_two_in document_manner

-- ---- no other kind

-- a message without a cause is the action
pub plain :
    (wording : Wording) (p : Parts) (action : Action) →
    message_of wording p action None ≡ action_text wording p.members p.member_count action
unfolding message_of message_text cause_text
plain wording p action = append-nil (action_text wording p.members p.member_count action)

module _ (manner : Manner) (p : Parts) (room : ℕ) (message : List ℕ) (kind scan block : ℕ) where
  abbrev Kinds : Type 0
  Kinds = ((kind ≡ 1) × ActionAlone manner.wording p message) ⊎ (kind ≡ 2)

  module _ (action : Action) (depth : ℕ)
      (decodes : decoded p.code p.members p.member_count p.fault ≡ faulted action depth) where
    by_cause :
        (cause : Option Load) (scanned count : ℕ) →
        said (message_of manner.wording p action cause) (kind_of cause) scanned count ≡ said message kind scan block → Kinds
    by_cause None scanned count told =
        let one : kind ≡ 1 = cc in
        let same : message ≡ message_of manner.wording p action None = cc in
        inl (one, record { action = action; depth = depth; decodes = decodes; words = same ∙ plain manner.wording p action })
    by_cause (Some l) scanned count told = inr cc

    by_trace : (trace : Result Traced ℕ) → said_by manner.wording p action trace ≡ said message kind scan block → Kinds
    by_trace (Err index) told = absurd cc
    by_trace (Ok t) told = by_cause t.cause t.scan t.block told

  by_decoding :
      (fault : Option Fault) → decoded p.code p.members p.member_count p.fault ≡ fault →
      said_at manner p room fault ≡ said message kind scan block → Kinds
  by_decoding None e told = absurd cc
  by_decoding (Some f) e told =
      by_trace f.action f.depth e (traced_in manner.model p f.depth room) told

pub one_or_two_in : (manner : Manner) → OneOrTwoIn manner
unfolding said_in
one_or_two_in manner p room message kind scan block told =
    by_decoding manner p room message kind scan block (decoded p.code p.members p.member_count p.fault) refl told

pub one_or_two : OneOrTwo
one_or_two = one_or_two_in document_manner
