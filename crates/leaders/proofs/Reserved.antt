-- What a reserved byte does to a scan. Rests on the declared leader and on what any rule has of document 01's.
-- Assumes nothing.
use Prim.Native.Nat.{ℕ, ◌≤◌}
use native.Mathlib.Omega.{arith}
use mathlib.Core.Path.{◌≡◌, ◌∙◌, sym}
use mathlib.Core.List.{List}
use Rattle.basics.specs.Bytes.{byte_at}
use Rattle.bytecode.specs.Length.{length_of}
use Rattle.bytecode.specs.Rule.{length_rule, document_rule}
use Rattle.leader.specs.Scan.{block_leader, led_to, stopped_at}
use Rattle.leader.proofs.Scanning.{err_is_none}
use Rattle.lengths.proofs.Reserved.{reserved_bytes}
use Rattle.leaders.specs.Leader.{Arrived, Reached}
use Rattle.leaders.specs.Reserved.{ReservedScan}
use Rattle.leaders.proofs.ByDocument.{led_by_document}
use Rattle.leaders.proofs.Declared.{stops_at}

module _ (extra code : List ℕ) (fault : ℕ) where
  stops_there :
      (count pc : ℕ) → Arrived length_rule code count pc → 202 ≤ byte_at code pc →
      block_leader length_of extra code fault ≡ stopped_at pc count
  stops_there count pc arrived high =
      let is = reserved_bytes.always code pc high in
      sym (stops_at length_rule extra code fault count pc arrived (reserved_bytes.only code pc is).0 (err_is_none is))

  -- a scan with a leader has reached all that document 01's reaches, so it would have stopped there
  no-leader :
      (pc leader count : ℕ) → Reached document_rule code pc → 202 ≤ byte_at code pc →
      block_leader length_of extra code fault ≡ led_to leader count → ⊥
  no-leader pc leader count reached high e =
      let here = led_by_document.reaches_all length_rule extra code fault leader count e pc reached in
      let stop = stops_there here.count pc here.arrived high in
      let z : ◌≡◌ {A = ℕ} 0 1 = cc in
      absurd (omega arith)

pub reserved_scan : ReservedScan
reserved_scan =
    record {
      unmoved = λ extra code fault none.
          led_by_document.same_lengths length_rule extra code fault
          (λ pc n reached measured. reserved_bytes.elsewhere code pc (none pc reached) ∙ measured);
      stops = stops_there;
      no_leader = no-leader;
    }
