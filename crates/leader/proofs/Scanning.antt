-- The scan as a loop takes it, over any way to measure: what is answered from here is what is answered from the start.
-- Assumes nothing.
use Rattle.std.specs.Prelude.{Result, Ok, Err}
use Prim.Native.Nat.{ℕ, zero, suc, ◌+◌, ◌-◌, max, ◌≤◌, ◌<◌}
use native.Mathlib.Omega.{arith}
use native.Mathlib.Nat.{not-suc-le-zero, sub-zero}
use native.Mathlib.Numerals.{sub-one}
use mathlib.Core.Bool.{Bool, true, false}
use mathlib.Core.Path.{◌≡◌, refl, ◌∙◌, sym, ap₂}
use mathlib.Core.List.{List}
use lib.Dec.{ltb}
use lib.ListN.{length}
use borrow.Author.Tests.{ltb-true, ltb-false, lt-ltb, le-ltb}
use Rattle.greatest.specs.Greatest.{greatest}
use Rattle.leader.specs.Targets.{leaders_at}
use Rattle.leader.specs.Scan.{Instructions, ended, unmeasured, instruction, scan_step, scan_from, instructions, scan_count, leaders_of, answered, block_leader, led_to, stopped_at}
use Rattle.leader.proofs.Greatest.{greatest_append, raised_by}
use Rattle.bytecode.specs.declared.Unmeasured.{Unmeasured}
use Rattle.leader.specs.declared.Scanned.{Scanned}

-- an answer that is no length
abbrev pub Lengthless : Result ℕ Unmeasured → Type 0
Lengthless answer = (n : ℕ) → answer ≡ Ok n → ⊥

pub err_is_none : {answer : Result ℕ Unmeasured} {why : Unmeasured} → answer ≡ Err why → Lengthless answer
err_is_none is n e = absurd cc

module _ (measure : List ℕ → ℕ → Result ℕ Unmeasured) (code : List ℕ) (pc : ℕ) where
  -- what the scan has at an index, with k more to come: the end, an instruction without a length, or one with its length
  pub data Turn (k : ℕ) : Instructions → Type 0 where
    at_end : length code ≤ pc → Turn k ended
    without : pc < length code → Lengthless (measure code pc) → Turn k (unmeasured pc)
    with_length :
        {n : ℕ} → pc < length code → measure code pc ≡ Ok n → Turn k (instruction pc n (scan_from measure code k (pc + n)))

  -- the one proof that goes by every answer of measuring
  pub turn : (k : ℕ) → Turn k (scan_from measure code (suc k) pc)
  unfolding scan_from
  turn k = by_measure (ltb pc (length code)) refl (measure code pc) refl
    where
      by_measure :
          (t : Bool) → ltb pc (length code) ≡ t → (answer : Result ℕ Unmeasured) → measure code pc ≡ answer →
          Turn k (scan_step t answer pc (λ next. scan_from measure code k next))
      by_measure false e answer measured = at_end (ltb-false pc (length code) e)
      by_measure true e (Ok n) measured = with_length (ltb-true pc (length code) e) measured
      by_measure true e (Err why) measured = without (ltb-true pc (length code) e) (err_is_none measured)

  -- an instruction that has a length
  pub scan_next :
      (k n : ℕ) → pc < length code → measure code pc ≡ Ok n →
      scan_from measure code (suc k) pc ≡ instruction pc n (scan_from measure code k (pc + n))
  unfolding scan_from
  scan_next k n inside e = simp (lt-ltb _ _ inside, e)

  pub scan_one :
      (k n : ℕ) → 0 < k → pc < length code → measure code pc ≡ Ok n →
      scan_from measure code k pc ≡ instruction pc n (scan_from measure code (k - 1) (pc + n))
  scan_one zero n some inside e = absurd (not-suc-le-zero some)
  scan_one (suc k) n some inside e = rw sub-one (scan_next k n inside e)

  -- one that has none
  pub scan_stops :
      (k : ℕ) → 0 < k → pc < length code → Lengthless (measure code pc) → scan_from measure code k pc ≡ unmeasured pc
  scan_stops zero some inside none = absurd (not-suc-le-zero some)
  scan_stops (suc k) some inside none = by_turn (turn k)
    where
      by_turn : {found : Instructions} → Turn k found → found ≡ unmeasured pc
      by_turn (at_end here) = absurd (omega (arith, here, inside))
      by_turn (without here nothing) = refl
      by_turn (with_length {n = n} here e) = absurd (none n e)

  -- the end of the code
  pub scan_ends : (k : ℕ) → length code ≤ pc → scan_from measure code k pc ≡ ended
  unfolding scan_from
  scan_ends zero past = refl
  scan_ends (suc k) past = simp (le-ltb _ _ past)

-- the answer of a scan with these instructions to come, the best leader and the count so far
unfoldable pub onward : List ℕ → ℕ → ℕ → ℕ → Instructions → Result Scanned Scanned
onward code fault best count rest =
    answered rest (max best (greatest fault (leaders_of code rest))) (count + scan_count rest)

module _ (measure : List ℕ → ℕ → Result ℕ Unmeasured) (code : List ℕ) (fault : ℕ) where
  -- the best so far is at first the greatest of the extra leaders
  pub at_first :
      (extra : List ℕ) (best : ℕ) → best ≡ greatest fault extra →
      onward code fault best 0 (scan_from measure code (length code - 0) 0) ≡ block_leader measure extra code fault
  unfolding onward block_leader instructions
  at_first extra best is =
      let scanned = scan_from measure code (length code) 0 in
      rw sub-zero
      (ap₂ (answered scanned) (omega (arith, is, greatest_append fault extra (leaders_of code scanned))) (omega arith))

  -- lists with the same greatest number at or below the fault lead alike
  pub led_alike :
      (one another : List ℕ) → greatest fault one ≡ greatest fault another →
      block_leader measure one code fault ≡ block_leader measure another code fault
  led_alike one another same =
      sym (at_first one (greatest fault one) refl) ∙ at_first another (greatest fault one) same

module _ (measure : List ℕ → ℕ → Result ℕ Unmeasured) (code : List ℕ) (fault best count pc : ℕ) (turns : count < length code) (inside : pc < length code) where
  -- one turn
  pub one_turn :
      (n raised : ℕ) → measure code pc ≡ Ok n → raised ≡ max best (greatest fault (leaders_at code pc (pc + n))) →
      onward code fault raised (count + 1) (scan_from measure code (length code - (count + 1)) (pc + n))
      ≡ onward code fault best count (scan_from measure code (length code - count) pc)
  unfolding onward answered leaders_of scan_count
  one_turn n raised e raised_is =
      let fewer : length code - count - 1 ≡ length code - (count + 1) = omega arith in
      let rest = scan_from measure code (length code - (count + 1)) (pc + n) in
      rw (scan_one measure code pc (length code - count) n (omega arith) inside e, fewer)
      (ap₂ (answered rest) (omega (arith, raised_is, raised_by fault best (leaders_at code pc (pc + n)) (leaders_of code rest))) (omega arith))

  -- the two ends
  pub stops :
      Lengthless (measure code pc) →
      stopped_at pc count ≡ onward code fault best count (scan_from measure code (length code - count) pc)
  unfolding onward answered scan_count
  stops none = rw (scan_stops measure code pc (length code - count) (omega arith) inside none) (ap₂ stopped_at refl (omega arith))

pub ends :
    (measure : List ℕ → ℕ → Result ℕ Unmeasured) (code : List ℕ) (fault best count pc k : ℕ) → length code ≤ pc →
    led_to best count ≡ onward code fault best count (scan_from measure code k pc)
unfolding onward answered leaders_of scan_count greatest
ends measure code fault best count pc k past = rw (scan_ends measure code pc k past) (ap₂ led_to (omega arith) (omega arith))
