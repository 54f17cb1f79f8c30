-- Whether there is a message, its action and its scan count do not depend on the model, and the full model drops no cause.
-- Assumes nothing.
use Rattle.fault.specs.Decoding.{faulted}
use Rattle.std.specs.Prelude.{Option, None, Some, Result, Ok, Err}
use Prim.Native.Nat.{ℕ, ◌≤◌}
use native.Mathlib.Omega.{arith}
use mathlib.Core.Path.{◌≡◌, refl, ◌∙◌, sym, ap}
use mathlib.Core.List.{List}
use lib.Dec.{lit≤}
use Rattle.cell.specs.declared.Load.{Load}
use Rattle.casefile.specs.Parts.{Parts}
use Rattle.walk.specs.Room.{Roomed, lacks, fits, block_walk_in}
use Rattle.walk.specs.Walk.{done, failed}
use Rattle.fault.specs.declared.Action.{Action}
use Rattle.fault.specs.declared.Fault.{Fault}
use Rattle.answer.specs.Answer.{kind_of, silent, roomless, said}
use Rattle.report.specs.Report.{scan_of, traced_in, message_of, said_by, said_at, said_in}
use Rattle.report.specs.declared.Manner.{Manner}
use Rattle.trace.specs.Trace.{trace_of, traced_by, traced_with}
use Rattle.words.specs.declared.Wording.{Wording}
use Rattle.models.specs.Models.{old, full, SilentAlike, SameAction, ActionsAlike}
use Rattle.models.proofs.Cause.{same_cause}
use Rattle.models.proofs.Elsewhere.{fault}
use Rattle.leader.specs.declared.Scanned.{Scanned}
use Rattle.trace.specs.declared.Traced.{Traced}

abbrev scanned : Result Scanned Scanned → ℕ
scanned (Ok s) = s.count
scanned (Err s) = s.count

-- ---- nothing to say

-- the action of a fault, another of none
abbrev action_or : Action → Option Fault → Action
action_or other None = other
action_or other (Some f) = f.action

module _ (p : Parts) (manner : Manner) (room : ℕ) where
  -- a fault is told of, or lacks room
  not_silent : (action : Action) (trace : Result Traced ℕ) → said_by manner.wording p action trace ≡ silent → ⊥
  not_silent action (Err index) e = absurd cc
  not_silent action (Ok t) e = absurd cc

  by_fault : (f : Option Fault) → said_at manner p room f ≡ silent → f ≡ None
  by_fault None e = refl
  by_fault (Some f) e = absurd (not_silent f.action (traced_in manner.model p f.depth room) e)

  nothing : said_in manner p room ≡ silent → fault p ≡ None
  unfolding said_in
  nothing e = by_fault (fault p) e

  silent_by : fault p ≡ None → said_in manner p room ≡ silent
  unfolding said_in
  silent_by e = rw e

-- ---- a message

same_scan : (t u : Traced) → ◌≡◌ {A = Result Traced ℕ} (Ok u) (Ok t) → t.scan ≡ u.scan
same_scan t u e = let same : t ≡ u = cc in ap (λ (x : Traced). x.scan) same

walk_scans :
    (scan depth : ℕ) (walked : Roomed ℕ) (s block : ℕ) (cause : Option Load) → trace_of scan depth walked ≡ traced_with s block cause →
    s ≡ scan
walk_scans scan depth (lacks index) s block cause e = absurd cc
walk_scans scan depth (fits (failed count index reason)) s block cause e = same_scan _ _ e
walk_scans scan depth (fits (done slots count)) s block cause e = same_scan _ _ e

module _ (manner : Manner) (p : Parts) (room : ℕ) (message : List ℕ) (kind scan block : ℕ) where
  -- what it is made of
  pub record Made : Type 0 where
    pub action : Action
    depth : ℕ
    decodes : fault p ≡ faulted action depth
    pub cause : Option Load
    pub words : message ≡ message_of manner.wording p action cause
    kinds : kind ≡ kind_of cause
    scans : scan ≡ scanned (scan_of p)

  module _ (action : Action) (depth : ℕ) (decodes : fault p ≡ faulted action depth) where
    trace_scans :
        (x : Result Scanned Scanned) (s count : ℕ) (cause : Option Load) →
        traced_by manner.model p.code p.members p.member_count p.fault depth room x ≡ traced_with s count cause →
        s ≡ scanned x
    trace_scans (Ok x) s count cause e =
        walk_scans x.count depth (block_walk_in manner.model p.code p.members p.member_count x.at p.fault room)
        s count cause e
    trace_scans (Err x) s count cause e = same_scan _ _ e

    by_trace :
        (trace : Result Traced ℕ) → traced_in manner.model p depth room ≡ trace →
        said_by manner.wording p action trace ≡ said message kind scan block → Made
    by_trace (Err index) e told = absurd cc
    by_trace (Ok t) e told =
        let words : message_of manner.wording p action t.cause ≡ message = cc in
        let kinds : kind_of t.cause ≡ kind = cc in
        let scans : t.scan ≡ scan = cc in
        record {
          action = action;
          depth = depth;
          decodes = decodes;
          cause = t.cause;
          words = sym words;
          kinds = sym kinds;
          scans = sym scans ∙ trace_scans (scan_of p) t.scan t.block t.cause e;
        }

  by_decoding : (f : Option Fault) → fault p ≡ f → said_at manner p room f ≡ said message kind scan block → Made
  by_decoding None e told = absurd cc
  by_decoding (Some f) e told =
      by_trace f.action f.depth e (traced_in manner.model p f.depth room) refl told

  pub made : said_in manner p room ≡ said message kind scan block → Made
  unfolding said_in
  made told = by_decoding (fault p) refl told

-- ---- the two messages

kind_some : (cause : Option Load) → 1 ≤ kind_of cause
kind_some None = lit≤ tt
kind_some (Some l) = lit≤ tt

module _ (w : Wording) (p : Parts) (room room' : ℕ) (message message' : List ℕ) (kind kind' scan scan' block block' : ℕ)
    (told : said_in (old w) p room ≡ said message kind scan block)
    (told' : said_in (full w) p room' ≡ said message' kind' scan' block') where
  -- a cause is not dropped
  kept : kind ≡ 2 → kind' ≡ 2
  kept two =
      let roomy : (index : ℕ) → said_in (full w) p room' ≡ roomless index → ⊥ = λ index e.
      let z : ◌≡◌ {A = ℕ} 0 1 = cc in omega arith in
      let same : said message 2 scan block ≡ said message' kind' scan' block' =
      sym (same_cause w p room room' message scan block (told ∙ rw two) roomy) ∙ told' in
      cc

  never-back : (cause cause' : Option Load) → kind ≡ kind_of cause → kind' ≡ kind_of cause' → kind ≤ kind'
  never-back None cause' e e' = omega (arith, e, e', kind_some cause')
  never-back (Some l) cause' e e' = omega (arith, e, kept e)

  same_action : SameAction w p message message' kind kind' scan scan'
  same_action =
      let one = made (old w) p room message kind scan block told in
      let other = made (full w) p room' message' kind' scan' block' told' in
      let failing : faulted other.action other.depth ≡ faulted one.action one.depth = sym other.decodes ∙ one.decodes in
      let same : other.action ≡ one.action = ap (action_or one.action) failing in
      record {
        action = one.action;
        depth = one.depth;
        decodes = one.decodes;
        cause = one.cause;
        cause' = other.cause;
        words = one.words;
        words' = other.words ∙ ap (λ (a : Action). message_of w p a other.cause) same;
        kinds = one.kinds;
        kinds' = other.kinds;
        scans = other.scans ∙ sym one.scans;
        never_back = never-back one.cause other.cause one.kinds other.kinds;
      }

pub silent_alike : SilentAlike
silent_alike one other p room room' e = silent_by p other room' (nothing p one room e)

pub actions_alike : ActionsAlike
actions_alike = same_action
