-- The scan answers the greatest leader as it is declared; condition 3's last clause follows, and what extra leaders do.
-- Rests on: where instructions land (Landings), the greatest of a list (Most).
-- Assumes nothing.
use Rattle.std.specs.Prelude.{Ok, Result, Err}
use Prim.Native.Nat.{ℕ, zero, suc, ◌+◌, ◌-◌, ◌≤◌, ◌<◌}
use native.Mathlib.Omega.{arith}
use native.Mathlib.Nat.{sub-zero}
use mathlib.Core.Path.{◌≡◌, refl, ◌∙◌, sym, ap, ap₂, subst, subst₂}
use mathlib.Core.Bool.{Bool, true, false}
use mathlib.Core.Logic.{⊎_elim, ◌⊎◌, inl, inr}
use mathlib.Core.List.Memᴰ
use mathlib.Core.List.{List, [], ◌∷◌, ◌++◌}
use lib.Dec.{T}
use lib.ListN.{length}
use Rattle.basics.specs.Bytes.{byte_at, AreBytes}
use Rattle.basics.specs.Choice.{pick}
use Rattle.basics.specs.Member.{◌∈◌}
use Rattle.jvms.specs.Branch.{landings_at, ends_block}
use Rattle.bytecode.proofs.Laws.{rule_positive, rule_inside}
use Rattle.bytecode.specs.Rule.{LengthRule}
use Rattle.greatest.specs.Greatest.{greatest}
use Rattle.leader.specs.Scan.{Instructions, ended, unmeasured, instruction, scan_from, instructions, scan_count, leaders_of, answered, block_leader, led_to, stopped_at}
use Rattle.leader.specs.Targets.{leaders_at}
use Rattle.leader.proofs.Greatest.{none_more}
use Rattle.leader.proofs.Scanning.{Lengthless, Turn, at_end, without, with_length, turn, scan_one, scan_stops, scan_ends, led_alike as alike}
use Rattle.leader.specs.declared.Scanned.{Scanned}
use Rattle.leaders.specs.Leader.{Arrived, start, next, Reached, IsLeader, zeroth, target, after, added, Wanted, Means, LeaderDeclared, NothingLandsBetween, NothingAddedBetween, LedAlike, ZeroAddsNothing}
use Rattle.leaders.proofs.Landings.{leaders_agree}
use Rattle.leaders.proofs.Most.{greatest_below, greatest_most, greatest_member}

-- ---- the scan, seen from an index at which it arrives

module _ (rule : LengthRule) (code : List ℕ) where
  arrived_within : {count pc : ℕ} → Arrived rule code count pc → (count ≤ pc) × (pc ≤ length code)
  arrived_within start = (omega arith, omega arith)
  arrived_within (next {count = count} {pc = pc} {n = n} before inside e) =
      let within = arrived_within before in
      (omega (arith, within.0, rule_positive rule code pc n e), rule_inside rule code pc n e)

  -- the instructions from pc on, after so many
  abbrev rest_at : ℕ → ℕ → Instructions
  rest_at count pc = scan_from rule.measure code (length code - count) pc

  -- what the whole scan says, said of the rest
  record Along (count pc : ℕ) : Type 0 where
    ends : (leader total : ℕ) → answered (instructions rule.measure code) leader total ≡ answered (rest_at count pc) leader total
    counts : scan_count (instructions rule.measure code) ≡ count + scan_count (rest_at count pc)
    gives : (x : ℕ) → x ∈ leaders_of code (rest_at count pc) → x ∈ leaders_of code (instructions rule.measure code)

  -- one instruction more
  rest_goes_on :
      (count pc n : ℕ) → count < length code → pc < length code → rule.measure code pc ≡ Ok n →
      rest_at count pc ≡ instruction pc n (rest_at (count + 1) (pc + n))
  rest_goes_on count pc n turns inside e =
      let fewer : length code - count - 1 ≡ length code - (count + 1) = omega arith in
      scan_one rule.measure code pc (length code - count) n (omega arith) inside e
      ∙ ap (λ (k : ℕ). instruction pc n (scan_from rule.measure code k (pc + n))) fewer

  along : {count pc : ℕ} → Arrived rule code count pc → Along count pc
  unfolding instructions answered scan_count leaders_of
  along start =
      let same : length code - 0 ≡ length code = sub-zero (length code) in
      record {
        ends = λ leader total. ap (λ (k : ℕ). answered (scan_from rule.measure code k 0) leader total) (sym same);
        counts = rw same (omega arith);
        gives = λ x m. rw same at m;
      }
  along (next {count = count} {pc = pc} {n = n} before inside e) =
      let within = arrived_within before in
      let so_far = along before in
      let goes_on = rest_goes_on count pc n (omega (arith, within.0)) inside e in
      let one : count + 1 ≡ suc count = omega arith in
      rw (← one)
      (record {
        ends = λ leader total. so_far.ends leader total ∙ ap (λ (r : Instructions). answered r leader total) goes_on;
        counts = omega (arith, so_far.counts, ap scan_count goes_on);
        gives = λ x m. so_far.gives x (rw goes_on (Memᴰ.append_right (leaders_at code pc (pc + n)) m));
      })

  -- ---- what the scan ends with

  abbrev Stops : ℕ → ℕ → Result Scanned Scanned → Type 0
  Stops leader total (Ok s) = (s.at ≡ leader) × (s.count ≡ total) × Arrived rule code s.count (length code)
  Stops leader total (Err s) = Arrived rule code s.count s.at × (s.at < length code) × Lengthless (rule.measure code s.at)

  at_the_end :
      {count pc : ℕ} (leader total : ℕ) → Arrived rule code count pc → length code ≤ pc → total ≡ count + 0 →
      Stops leader total (led_to leader total)
  at_the_end {count} {pc} leader total arrived past counted =
      let there : pc ≡ length code = omega (arith, (arrived_within arrived).1) in
      let all : count ≡ total = omega arith in
      (refl, refl, subst₂ (λ (j p : ℕ). Arrived rule code j p) all there arrived)

  stops :
      (k count pc : ℕ) → Arrived rule code count pc → length code ≤ pc + k →
      (leader total : ℕ) → total ≡ count + scan_count (scan_from rule.measure code k pc) →
      Stops leader total (answered (scan_from rule.measure code k pc) leader total)
  unfolding scan_from answered scan_count
  stops zero count pc arrived enough leader total counted = at_the_end leader total arrived (omega arith) counted
  stops (suc k) count pc arrived enough leader total counted =
      by_turn (turn rule.measure code pc k) counted (λ n. stops k (suc count) (pc + n))
    where
      following : ℕ → Instructions
      following p = scan_from rule.measure code k p

      by_turn :
          {found : Instructions} → Turn rule.measure code pc k found → total ≡ count + scan_count found →
          ((n : ℕ) → Arrived rule code (suc count) (pc + n) → length code ≤ pc + n + k →
          (l s : ℕ) → s ≡ suc count + scan_count (following (pc + n)) → Stops l s (answered (following (pc + n)) l s)) →
          Stops leader total (answered found leader total)
      by_turn (at_end here) c rest = at_the_end leader total arrived here c
      by_turn (without inside none) c rest =
          let all : count ≡ total = omega (arith, c) in
          (subst (λ (j : ℕ). Arrived rule code j pc) all arrived, inside, none)
      by_turn (with_length {n = n} inside measured) c rest =
          rest n (next arrived inside measured) (omega (arith, rule_positive rule code pc n measured)) leader total (omega (arith, c))

  -- ---- what the scan gives is what a leader is

  forward :
      (x k : ℕ) {count pc : ℕ} → AreBytes code → Arrived rule code count pc → (extra : List ℕ) →
      x ∈ leaders_of code (scan_from rule.measure code k pc) → IsLeader rule extra code x
  unfolding scan_from leaders_of
  forward x zero are arrived extra m = absurd (Memᴰ.not-nil m)
  forward x (suc k) {count} {pc} are arrived extra m =
      by_turn (turn rule.measure code pc k) m (λ n a. forward x k {pc = pc + n} are a extra)
    where
      following : ℕ → Instructions
      following p = scan_from rule.measure code k p

      reached : pc < length code → Reached rule code pc
      reached inside = record { count = count; arrived = arrived; inside = inside }

      behind :
          (n : ℕ) → pc < length code → rule.measure code pc ≡ Ok n → (b : Bool) → ends_block (byte_at code pc) ≡ b →
          x ∈ pick b ((pc + n) ∷ []) [] → IsLeader rule extra code x
      behind n inside measured true e w =
          subst (λ (y : ℕ). IsLeader rule extra code y) (sym (Memᴰ.eq_of_singleton w))
          (after (reached inside) measured (subst (λ (b : Bool). T b) (sym e) tt))
      behind n inside measured false e w = absurd (Memᴰ.not-nil w)

      given :
          (n : ℕ) → pc < length code → rule.measure code pc ≡ Ok n → x ∈ leaders_at code pc (pc + n) → IsLeader rule extra code x
      given n inside measured w =
          ⊎_elim
          (λ (l : x ∈ landings_at code pc). target (reached inside) l)
          (λ (l : x ∈ pick (ends_block (byte_at code pc)) ((pc + n) ∷ []) []). behind n inside measured (ends_block (byte_at code pc)) refl l)
          (Memᴰ.append_cases (landings_at code pc) (rw (leaders_agree code are pc (pc + n)) at w))

      by_turn :
          {found : Instructions} → Turn rule.measure code pc k found → x ∈ leaders_of code found →
          ((n : ℕ) → Arrived rule code (suc count) (pc + n) → x ∈ leaders_of code (following (pc + n)) → IsLeader rule extra code x) →
          IsLeader rule extra code x
      by_turn (at_end here) w rest = absurd (Memᴰ.not-nil w)
      by_turn (without inside none) w rest = absurd (Memᴰ.not-nil w)
      by_turn (with_length {n = n} inside measured) w rest =
          ⊎_elim
          (λ (here : x ∈ leaders_at code pc (pc + n)). given n inside measured here)
          (λ (there : x ∈ leaders_of code (following (pc + n))). rest n (next arrived inside measured) there)
          (Memᴰ.append_cases (leaders_at code pc (pc + n)) w)

  -- a measured instruction that is reached has its part in the scan
  gives_own :
      (x n : ℕ) {pc : ℕ} → Reached rule code pc → rule.measure code pc ≡ Ok n → x ∈ leaders_at code pc (pc + n) →
      x ∈ leaders_of code (instructions rule.measure code)
  unfolding leaders_of
  gives_own x n {pc} reached measured m =
      let within = arrived_within reached.arrived in
      (along reached.arrived).gives x
      (rw (rest_goes_on reached.count pc n (omega (arith, within.0, reached.inside)) reached.inside measured)
      (Memᴰ.append_left (leaders_of code (rest_at (reached.count + 1) (pc + n))) m))

  -- where the scan comes to the end, each instruction that is reached has a length
  pub has_length :
      {pc : ℕ} (leader total at count : ℕ) → Reached rule code pc →
      answered (instructions rule.measure code) leader total ≡ led_to at count → (n : ℕ) × (rule.measure code pc ≡ Ok n)
  unfolding answered
  has_length {pc} leader total at count reached e =
      let within = arrived_within reached.arrived in
      let left = length code - reached.count - 1 in
      let some : length code - reached.count ≡ suc left = omega (arith, within.0, reached.inside) in
      by_turn (turn rule.measure code pc left)
      (sym ((along reached.arrived).ends leader total
      ∙ ap (λ (k : ℕ). answered (scan_from rule.measure code k pc) leader total) some)
      ∙ e)
    where
      by_turn :
          {k : ℕ} {found : Instructions} → Turn rule.measure code pc k found → answered found leader total ≡ led_to at count →
          (n : ℕ) × (rule.measure code pc ≡ Ok n)
      by_turn (at_end here) ends = absurd (omega (arith, here, reached.inside))
      by_turn (without inside none) ends = let z : ◌≡◌ {A = ℕ} 0 1 = cc in absurd (omega arith)
      by_turn (with_length {n = n} inside measured) ends = (n, measured)

  backward :
      (are : AreBytes code) (extra : List ℕ) {x : ℕ} (leader total at count : ℕ) →
      answered (instructions rule.measure code) leader total ≡ led_to at count → IsLeader rule extra code x →
      (x ≡ 0) ⊎ (x ∈ extra ++ leaders_of code (instructions rule.measure code))
  backward are extra leader total at count e zeroth = inl refl
  backward are extra leader total at count e (target {pc = pc} {x = x} reached m) =
      let long = has_length leader total at count reached e in
      inr
      (Memᴰ.append_right extra
      (gives_own x long.0 reached long.1
      (rw (leaders_agree code are pc (pc + long.0)) (Memᴰ.append_left (pick (ends_block (byte_at code pc)) ((pc + long.0) ∷ []) []) m))))
  backward are extra leader total at count e (after {pc = pc} {n = n} reached measured t) =
      inr
      (Memᴰ.append_right extra
      (gives_own (pc + n) n reached measured
      (rw (leaders_agree code are pc (pc + n)) (Memᴰ.append_right (landings_at code pc) (behind (ends_block (byte_at code pc)) t)))))
    where
      behind : (b : Bool) → T b → pc + n ∈ pick b ((pc + n) ∷ []) []
      behind true u = Memᴰ.head refl
      behind false u = absurd u
  backward are extra leader total at count e (added {x = x} m) =
      inr (Memᴰ.append_left (leaders_of code (instructions rule.measure code)) m)

-- ---- the answer

-- the scan stops where an instruction that it comes to has no length
pub stops_at :
    (rule : LengthRule) (extra code : List ℕ) (fault count pc : ℕ) → Arrived rule code count pc → pc < length code →
    Lengthless (rule.measure code pc) → stopped_at pc count ≡ block_leader rule.measure extra code fault
unfolding block_leader answered scan_count
stops_at rule extra code fault count pc arrived inside none =
    let scanned = instructions rule.measure code in
    let best = greatest fault (extra ++ leaders_of code scanned) in
    let here = along rule code arrived in
    let within = arrived_within rule code arrived in
    let some : 0 < length code - count = omega (arith, within.0, inside) in
    let cut : rest_at rule code count pc ≡ unmeasured pc = scan_stops rule.measure code pc (length code - count) some inside none in
    ap₂ stopped_at refl (omega (arith, here.counts, ap scan_count cut))
    ∙ sym (here.ends best (scan_count scanned) ∙ ap (λ (r : Instructions). answered r best (scan_count scanned)) cut)

module _ (rule : LengthRule) (extra code : List ℕ) (are : AreBytes code) (fault : ℕ) where
  abbrev scanned : Instructions
  scanned = instructions rule.measure code

  -- the greatest of what the scan gives
  abbrev best : ℕ
  best = greatest fault (extra ++ leaders_of code scanned)

  best_wanted : (at count : ℕ) → answered scanned best (scan_count scanned) ≡ led_to at count → Wanted rule extra code fault best
  unfolding instructions
  best_wanted at count e =
      record {
        is_leader =
            ⊎_elim
            (λ (z : best ≡ 0). subst (λ (y : ℕ). IsLeader rule extra code y) (sym z) zeroth)
            (λ (m : best ∈ extra ++ leaders_of code scanned).
            ⊎_elim
            (λ (own : best ∈ extra). added own)
            (λ (given : best ∈ leaders_of code scanned). forward rule code best (length code) are start extra given)
            (Memᴰ.append_cases extra m))
            (greatest_member fault (extra ++ leaders_of code scanned));
        at_or_below = greatest_below fault (extra ++ leaders_of code scanned);
        greatest =
            λ x is below.
            ⊎_elim
            (λ (z : x ≡ 0). omega (arith, z))
            (λ (m : x ∈ extra ++ leaders_of code scanned). greatest_most fault x (extra ++ leaders_of code scanned) m below)
            (backward rule code are extra best (scan_count scanned) at count e is);
      }

  what_it_means :
      (answer : Result Scanned Scanned) → answered scanned best (scan_count scanned) ≡ answer → Stops rule code best (scan_count scanned) answer →
      Means rule extra code fault answer
  what_it_means (Ok s) e stop =
      (stop.2, subst (λ (l : ℕ). Wanted rule extra code fault l) (sym stop.0) (best_wanted s.at s.count e))
  what_it_means (Err s) e stop = stop

  means : Means rule extra code fault (block_leader rule.measure extra code fault)
  unfolding block_leader instructions
  means =
      what_it_means (answered scanned best (scan_count scanned)) refl
      (stops rule code (length code) 0 0 start (omega arith) best (scan_count scanned) (omega arith))

  only : (answer : Result Scanned Scanned) → Means rule extra code fault answer → answer ≡ block_leader rule.measure extra code fault
  unfolding block_leader answered scan_count
  only (Ok s) m =
      let here = along rule code m.0 in
      let done : rest_at rule code s.count (length code) ≡ ended = scan_ends rule.measure code (length code) (length code - s.count) (omega arith) in
      let answers : answered scanned best (scan_count scanned) ≡ led_to best (scan_count scanned) =
      here.ends best (scan_count scanned) ∙ ap (λ (r : Instructions). answered r best (scan_count scanned)) done in
      let wanted = best_wanted best (scan_count scanned) answers in
      let least = wanted.greatest s.at m.1.is_leader m.1.at_or_below in
      let most = m.1.greatest best wanted.is_leader wanted.at_or_below in
      ap₂ led_to (omega arith) (omega (arith, here.counts, ap scan_count done)) ∙ sym answers
  only (Err s) m = stops_at rule extra code fault s.count s.at m.0 m.1 m.2

pub leader_declared : LeaderDeclared
leader_declared = record { means = means; only = only }

pub nothing_lands_between : NothingLandsBetween
nothing_lands_between rule extra code are fault leader count inside e pc x reached lands above below =
    let wanted = (subst (λ (s : Result Scanned Scanned). Means rule extra code fault s) e (means rule extra code are fault)).1 in
    omega (arith, wanted.greatest x (target reached lands) below)

pub nothing_added_between : NothingAddedBetween
nothing_added_between rule extra code are fault leader count e x listed above below =
    let wanted = (subst (λ (s : Result Scanned Scanned). Means rule extra code fault s) e (means rule extra code are fault)).1 in
    omega (arith, wanted.greatest x (added listed) below)

pub led_alike : LedAlike
led_alike = alike

pub zero_adds_nothing : ZeroAddsNothing
zero_adds_nothing measure code fault extra = led_alike measure code fault (0 ∷ extra) extra (none_more fault extra)
