-- What a reserved byte does to a report. A report knows the lengths by its scan alone, so what the scan has of document 01's it has too.
-- Assumes nothing.
use Rattle.std.specs.Prelude.{Result}
use Prim.Native.Nat.{ℕ, ◌≤◌}
use mathlib.Core.Path.{◌≡◌, ◌∙◌, sym, ap}
use mathlib.Core.List.{List, []}
use Rattle.basics.specs.Bytes.{byte_at}
use Rattle.bytecode.specs.Length.{document_length}
use Rattle.bytecode.specs.Rule.{length_rule}
use Rattle.leader.specs.Scan.{block_leader}
use Rattle.leader.specs.declared.Scanned.{Scanned}
use Rattle.leaders.specs.Leader.{Arrived}
use Rattle.leaders.proofs.ByDocument.{led_by_document}
use Rattle.leaders.proofs.Reserved.{reserved_scan}
use Rattle.casefile.specs.Parts.{Parts}
use Rattle.fault.specs.Decoding.{decoded, faulted}
use Rattle.fault.specs.declared.Action.{Action}
use Rattle.action.specs.Action.{action_text}
use Rattle.answer.specs.Answer.{said}
use Rattle.report.specs.Report.{scan_of, said_from, said_in}
use Rattle.report.specs.declared.Manner.{Manner}
use Rattle.evidence.specs.Reserved.{said_by_document, ReservedReport}
use Rattle.evidence.proofs.Kind.{kind_two_in, plain}

module _ (manner : Manner) (p : Parts) (room : ℕ) where
  said_alike : scan_of p ≡ block_leader document_length [] p.code p.fault → said_in manner p room ≡ said_by_document manner p room
  unfolding said_in
  said_alike same =
      ap (λ (x : Result Scanned Scanned). said_from manner x p room (decoded p.code p.members p.member_count p.fault)) same

  action-alone :
      (count pc : ℕ) →
      Arrived length_rule p.code count pc → 202 ≤ byte_at p.code pc → (action : Action) (depth : ℕ) →
      decoded p.code p.members p.member_count p.fault ≡ faulted action depth →
      said_in manner p room ≡ said (action_text manner.wording p.members p.member_count action) 1 count 0
  unfolding said_in
  action-alone count pc arrived high action depth decodes =
      rw (decodes, reserved_scan.stops [] p.code p.fault count pc arrived high)
      (ap (λ (text : List ℕ). said text 1 count 0) (plain manner.wording p action))

  same-name :
      (message : List ℕ) (scan block : ℕ) → said_in manner p room ≡ said message 2 scan block →
      said_by_document manner p room ≡ said message 2 scan block
  same-name message scan block told =
      let c = (kind_two_in manner).only p room message scan block told in
      let leads = led_by_document.same_leader length_rule [] p.code p.fault c.leader scan c.leads in
      sym (said_alike (c.leads ∙ sym leads)) ∙ told

pub reserved_report : (manner : Manner) → ReservedReport manner
reserved_report manner =
    record {
      unmoved = λ p room none. said_alike manner p room (reserved_scan.unmoved [] p.code p.fault none);
      action_alone = action-alone manner;
      same_name = same-name manner;
    }
