-- Another rule's scan against document 01's: what it reaches, and where it gives a leader or measures alike.
-- Assumes nothing.
use Rattle.std.specs.Prelude.{Ok, Result}
use Prim.Native.Nat.{ℕ, zero, suc, ◌+◌}
use native.Mathlib.Omega.{arith}
use mathlib.Core.Path.{◌≡◌, refl, ◌∙◌, sym, ap}
use mathlib.Core.List.{List, ◌++◌}
use lib.ListN.{length}
use Rattle.bytecode.specs.Length.{document_length}
use Rattle.bytecode.specs.Rule.{LengthRule, document_rule}
use Rattle.greatest.specs.Greatest.{greatest}
use Rattle.leader.specs.Scan.{Instructions, instruction, scan_from, instructions, scan_count, leaders_of, answered, block_leader, led_to}
use Rattle.leader.proofs.Scanning.{Turn, at_end, without, with_length, turn, scan_next, scan_stops, scan_ends}
use Rattle.leader.specs.declared.Scanned.{Scanned}
use Rattle.leaders.specs.Leader.{Arrived, start, next, Reached, LedByDocument}
use Rattle.leaders.proofs.Declared.{has_length}

-- the answer of a scan that has these instructions
abbrev answer_to : List ℕ → List ℕ → ℕ → Instructions → Result Scanned Scanned
answer_to extra code fault scanned = answered scanned (greatest fault (extra ++ leaders_of code scanned)) (scan_count scanned)

module _ (rule : LengthRule) (code : List ℕ) where
  abbrev given : ℕ → ℕ → Instructions
  given = scan_from rule.measure code

  abbrev documented : ℕ → ℕ → Instructions
  documented = scan_from document_length code

  -- its lengths are document 01's
  arrives_no_more : {count pc : ℕ} → Arrived rule code count pc → Arrived document_rule code count pc
  arrives_no_more start = start
  arrives_no_more (next {pc = pc} {n = n} before inside measured) =
      next (arrives_no_more before) inside (rule.documented code pc n measured)

  reaches-no-more : (pc : ℕ) → Reached rule code pc → Reached document_rule code pc
  reaches-no-more pc reached =
      record { count = reached.count; arrived = arrives_no_more reached.arrived; inside = reached.inside }

  -- ---- where it gives a length to all that it reaches and document 01 gives one to

  module _ (alike : (pc n : ℕ) → Reached rule code pc → document_length code pc ≡ Ok n → rule.measure code pc ≡ Ok n) where
    scans_alike : (k : ℕ) {count pc : ℕ} → Arrived rule code count pc → given k pc ≡ documented k pc
    unfolding scan_from
    scans_alike zero arrived = refl
    scans_alike (suc k) {count} {pc} arrived = by_turn (turn document_length code pc k) (λ n. scans_alike k {pc = pc + n})
      where
        by_turn :
            {found : Instructions} → Turn document_length code pc k found →
            ((n : ℕ) → Arrived rule code (suc count) (pc + n) → given k (pc + n) ≡ documented k (pc + n)) →
            given (suc k) pc ≡ found
        by_turn (at_end here) rest = scan_ends rule.measure code pc (suc k) here
        by_turn (without inside none) rest =
            scan_stops rule.measure code pc (suc k) (omega arith) inside (λ n e. none n (rule.documented code pc n e))
        by_turn (with_length {n = n} inside measured) rest =
            let here : Reached rule code pc = record { count = count; arrived = arrived; inside = inside } in
            let same = alike pc n here measured in
            scan_next rule.measure code pc k n inside same ∙ ap (instruction pc n) (rest n (next arrived inside same))

  -- ---- where it gives a leader

  module _ (best total leader count : ℕ) where
    whole_alike : (k pc : ℕ) → answered (given k pc) best total ≡ led_to leader count → given k pc ≡ documented k pc
    unfolding scan_from answered
    whole_alike zero pc e = refl
    whole_alike (suc k) pc e = by_turn (turn rule.measure code pc k) e (λ n. whole_alike k (pc + n))
      where
        by_turn :
            {found : Instructions} → Turn rule.measure code pc k found → answered found best total ≡ led_to leader count →
            ((n : ℕ) → answered (given k (pc + n)) best total ≡ led_to leader count → given k (pc + n) ≡ documented k (pc + n)) →
            found ≡ documented (suc k) pc
        by_turn (at_end here) e rest = sym (scan_ends document_length code pc (suc k) here)
        by_turn (without inside none) e rest = let z : ◌≡◌ {A = ℕ} 0 1 = cc in absurd (omega arith)
        by_turn (with_length {n = n} inside measured) e rest =
            ap (instruction pc n) (rest n e)
            ∙ sym (scan_next document_length code pc k n inside (rule.documented code pc n measured))

    -- each instruction that document 01's scan comes to has been measured
    arrives_at_all :
        answered (instructions rule.measure code) best total ≡ led_to leader count →
        {turns pc : ℕ} → Arrived document_rule code turns pc → Arrived rule code turns pc
    arrives_at_all e start = start
    arrives_at_all e (next {count = turns} {pc = pc} {n = n} before inside measured) =
        let here = arrives_at_all e before in
        let long = has_length rule code best total leader count (record { count = turns; arrived = here; inside = inside }) e in
        let same : Ok long.0 ≡ Ok n = sym (rule.documented code pc long.0 long.1) ∙ measured in
        next here inside (long.1 ∙ same)

-- ---- all of it

module _ (rule : LengthRule) (extra code : List ℕ) (fault : ℕ) where
  abbrev scanned : Instructions
  scanned = instructions rule.measure code

  abbrev best : ℕ
  best = greatest fault (extra ++ leaders_of code scanned)

  same-leader :
      (leader count : ℕ) → block_leader rule.measure extra code fault ≡ led_to leader count →
      block_leader document_length extra code fault ≡ led_to leader count
  unfolding block_leader instructions
  same-leader leader count e =
      ap (answer_to extra code fault) (sym (whole_alike rule code best (scan_count scanned) leader count (length code) 0 e)) ∙ e

  reaches-all :
      (leader count : ℕ) → block_leader rule.measure extra code fault ≡ led_to leader count →
      (pc : ℕ) → Reached document_rule code pc → Reached rule code pc
  unfolding block_leader
  reaches-all leader count e pc reached =
      record {
        count = reached.count;
        arrived = arrives_at_all rule code best (scan_count scanned) leader count e reached.arrived;
        inside = reached.inside;
      }

pub led_by_document : LedByDocument
unfolding block_leader instructions
led_by_document =
    record {
      reaches_no_more = reaches-no-more;
      same_lengths = λ rule extra code fault alike.
          ap (answer_to extra code fault) (scans_alike rule code alike (length code) start);
      same_leader = same-leader;
      reaches_all = reaches-all;
    }
