-- What is said of parts in a manner, by what their fault decodes to and its trace.
-- Assumes nothing.
use Rattle.std.specs.Prelude.{Option, Err, None}
use Prim.Native.Nat.{ℕ}
use mathlib.Core.Bool.{Bool}
use mathlib.Core.List.{List}
use mathlib.Core.Path.{◌≡◌}
use Rattle.cell.specs.declared.Load.{Load}
use Rattle.casefile.specs.Parts.{Parts}
use Rattle.fault.specs.Decoding.{decoded, faulted}
use Rattle.fault.specs.declared.Action.{Action}
use Rattle.message.specs.Message.{message_text}
use Rattle.answer.specs.Answer.{kind_of, said, Delivered}
use Rattle.locals.specs.Name.{is_instance}
use Rattle.report.specs.Report.{message_of, said_in}
use Rattle.report.specs.declared.Manner.{Manner}
use Rattle.trace.specs.Trace.{traced, traced_with}
use Rattle.answer.specs.declared.Report.TheVariants as report
use Rattle.answer.specs.declared.Report.{Report}

module _ (manner : Manner) (p : Parts) (room : ℕ) (out : List ℕ) where
  abbrev pub Reports : Report → List ℕ → Type 0
  Reports = Delivered (said_in manner p room) out

  pub is_silent : decoded p.code p.members p.member_count p.fault ≡ None → Reports report.NoMessage out
  unfolding said_in
  is_silent e = record { answers = rw e; leaves = rw e }

  module _ (action : Action) (depth : ℕ) where
    pub is_roomless :
        (index : ℕ) → decoded p.code p.members p.member_count p.fault ≡ faulted action depth →
        traced manner.model p.code p.members p.member_count p.fault depth room ≡ Err index →
        Reports (report.NoRoom index) out
    unfolding said_in traced
    is_roomless index e t = record { answers = rw (e, t); leaves = rw (e, t) }

    pub is_said :
        (scan block : ℕ) (cause : Option Load) → decoded p.code p.members p.member_count p.fault ≡ faulted action depth →
        traced manner.model p.code p.members p.member_count p.fault depth room ≡ traced_with scan block cause →
        (instance : Bool) → instance ≡ is_instance p.flags → (answer : Report) (left : List ℕ) →
        Delivered
        (said (message_text manner.wording p.members p.member_count action cause p.records p.record_count p.signature instance)
        (kind_of cause) scan block)
        out answer left →
        Reports answer left
    unfolding said_in message_of traced
    is_said scan block cause e t instance i answer left delivered = rw (e, t, ← i) delivered
