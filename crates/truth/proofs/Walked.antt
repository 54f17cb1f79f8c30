-- The walk from the leader to the fault and the machine's run beside it.
-- Assumes nothing.
use Prim.Native.Nat.{ℕ, zero, suc, ◌+◌, ◌-◌, ◌≤◌, ◌<◌}
use native.Mathlib.Nat.{not-suc-le-zero, le_of_suc-le-suc, eq-or-lt_of_le}
use native.Mathlib.Numerals.{add-one}
use native.Mathlib.Omega.{arith}
use mathlib.Core.Path.{◌≡◌, refl, ◌∙◌, sym, ap, subst}
use mathlib.Core.Bool.{Bool, true, false}
use mathlib.Core.Logic.{◌⊎◌, inl, inr, ⊎_elim}
use mathlib.Core.List.{List, [], append-nil}
use lib.Dec.{eqb, ltb}
use borrow.Author.Tests.{eqb-true, ltb-true}
use Rattle.basics.specs.Choice.{pick}
use Rattle.basics.specs.Each.{none}
use Rattle.jvms.specs.Machine.{State, next, ran}
use Rattle.walk.specs.Walk.{overshot, Outcome, stops, goes, passes, done, failed, step, ended, after, walk_from, walk}
use Rattle.truth.specs.Condition.{InBlock, first}
use Rattle.truth.specs.Relation.{Setting, machine, Speaks, Given, Translated, WalkTranslates}
use Rattle.truth.proofs.Above.{Above}
use Rattle.truth.proofs.Machine.{ran_next}
use Rattle.walk.proofs.Step.{stepped}
use Rattle.truth.proofs.Turn.{turned}

module _ {A Val : Type 0} (s : Setting A Val) (slots : List A) (count : ℕ) where
  abbrev Ends : ℕ → ℕ → List A → ℕ → Type 0
  Ends turns pc list n = walk_from s.marks s.rows s.lookup s.code s.fault turns pc list n ≡ done slots count

  abbrev step_at : ℕ → List A → Outcome A
  step_at pc list = step s.marks s.rows s.lookup s.code s.fault pc list

  -- ---- how a walk ends with a list

  -- at the fault, with what it has
  record Ended (pc : ℕ) (list : List A) (n : ℕ) : Type 0 where
    there : pc ≡ s.fault
    left : list ≡ slots
    total : n ≡ count

  -- or behind one step more
  record Continued (turns pc : ℕ) (list : List A) (n : ℕ) : Type 0 where
    before : pc < s.fault
    onward : ℕ
    more : List A
    goes_on : step_at pc list ≡ goes onward more
    rest : Ends turns onward more (n + 1)

  ended_is :
      (pc : ℕ) (list : List A) (n : ℕ) →
      ended s.marks s.rows s.lookup s.code s.fault pc list n ≡ done slots count → Ended pc list n
  ended_is pc list n e = by_test (eqb pc s.fault) refl e
    where
      by_test :
          (b : Bool) → eqb pc s.fault ≡ b → pick b (done list n) (failed n pc overshot) ≡ done slots count → Ended pc list n
      by_test true h q = record { there = eqb-true pc s.fault h; left = cc; total = cc }
      by_test false h q = let z : ◌≡◌ {A = ℕ} 0 1 = cc in absurd (omega arith)

  continued_is :
      (turns pc : ℕ) (list : List A) (n : ℕ) → pc < s.fault → (x : Outcome A) → step_at pc list ≡ x →
      after s.marks s.rows s.lookup s.code s.fault x pc n
      (λ onward more. walk_from s.marks s.rows s.lookup s.code s.fault turns onward more (n + 1))
      ≡ done slots count →
      Continued turns pc list n
  continued_is turns pc list n before (stops reason) h q = let z : ◌≡◌ {A = ℕ} 0 1 = cc in absurd (omega arith)
  continued_is turns pc list n before (goes onward more) h q =
      record { before = before; onward = onward; more = more; goes_on = h; rest = q }
  continued_is turns pc list n before (passes more) h q = let z : ◌≡◌ {A = ℕ} 0 1 = cc in absurd (omega arith)

  last_turn : (pc : ℕ) (list : List A) (n : ℕ) → Ends 0 pc list n → Ended pc list n
  unfolding walk_from
  last_turn pc list n e = ended_is pc list n e

  next_turn :
      (turns pc : ℕ) (list : List A) (n : ℕ) → Ends (suc turns) pc list n → Ended pc list n ⊎ Continued turns pc list n
  unfolding walk_from
  next_turn turns pc list n e = by_test (ltb pc s.fault) refl e
    where
      by_test :
          (b : Bool) → ltb pc s.fault ≡ b →
          pick b
          (after s.marks s.rows s.lookup s.code s.fault (step_at pc list) pc n
          (λ onward more. walk_from s.marks s.rows s.lookup s.code s.fault turns onward more (n + 1)))
          (ended s.marks s.rows s.lookup s.code s.fault pc list n)
          ≡ done slots count →
          Ended pc list n ⊎ Continued turns pc list n
      by_test true h q = inr (continued_is turns pc list n (ltb-true pc s.fault h) (step_at pc list) refl q)
      by_test false h q = inl (ended_is pc list n q)

  -- instructions that were completed count
  count_grows : (turns pc : ℕ) (list : List A) (n : ℕ) → Ends turns pc list n → n ≤ count
  count_grows zero pc list n e = omega (arith, (last_turn pc list n e).total)
  count_grows (suc turns) pc list n e =
      ⊎_elim
      (λ (x : Ended pc list n). omega (arith, x.total))
      (λ (x : Continued turns pc list n). omega (arith, count_grows turns x.onward x.more (n + 1) x.rest))
      (next_turn turns pc list n e)

  -- ---- the machine beside it

  module _ (given : Given s) (speaks : (j : ℕ) → j < count → Speaks s (machine s j)) where
    -- after n instructions of both
    record Beside (list : List A) (n : ℕ) : Type 0 where
      in_block : InBlock s.code s.leader (machine s n).pc
      above : Above s list (machine s n).stack
      before : (j : ℕ) → j < n → (machine s j).pc < s.fault

    finish : (list : List A) (n : ℕ) → Beside list n → Ended (machine s n).pc list n → Translated s slots count
    finish list n b e =
        let reached : (machine s count).pc ≡ s.fault = subst (λ (k : ℕ). (machine s k).pc ≡ s.fault) e.total e.there in
        let leaves : Above s slots (machine s count).stack =
        subst (λ (k : ℕ). Above s slots (machine s k).stack) e.total (rw e.left at b.above) in
        record {
          reached = reached;
          not_before = λ j l. b.before j (omega (arith, e.total));
          in_block = subst (λ (pc : ℕ). InBlock s.code s.leader pc) e.there b.in_block;
          above = leaves.above;
          untouched = leaves.untouched;
          held = leaves.held;
        }

    -- one instruction more
    beside_next :
        (turns : ℕ) (list : List A) (n : ℕ) (b : Beside list n) (c : Continued turns (machine s n).pc list n) →
        ((machine s (suc n)).pc ≡ c.onward) × Beside c.more (suc n)
    beside_next turns list n b c =
        let pc : ℕ = (machine s n).pc in
        let completed : n < count = omega (arith, count_grows turns c.onward c.more (n + 1) c.rest) in
        let t =
        turned s given (machine s n) list b.above (given.described pc b.in_block (omega (arith, c.before)))
        (speaks n completed) b.in_block c.onward c.more
        (stepped s.marks s.rows s.lookup s.code s.fault pc list c.onward c.more c.goes_on) in
        let on : machine s (suc n) ≡ next s.pool s.code s.opaque (machine s n) =
        ran_next s.pool s.code s.opaque n (record { pc = s.leader; stack = s.entering; locals = s.locals }) in (
          ap (λ (st : State Val). st.pc) on ∙ t.there,
          record {
            in_block = rw (ap (λ (st : State Val). st.pc) on ∙ t.there) t.in_block;
            above = rw on t.leaves;
            before = λ j l. earlier n b.before c.before j l;
          },
        )
      where
        earlier :
            (n : ℕ) → ((j : ℕ) → j < n → (machine s j).pc < s.fault) → (machine s n).pc < s.fault →
            (j : ℕ) → j < suc n → (machine s j).pc < s.fault
        earlier n before here j l =
            ⊎_elim
            (λ (e : j ≡ n). rw e here)
            (λ (h : j < n). before j h)
            (eq-or-lt_of_le (le_of_suc-le-suc l))

    translate :
        (turns : ℕ) (list : List A) (n : ℕ) → Beside list n → Ends turns (machine s n).pc list n → Translated s slots count
    translate zero list n b e = finish list n b (last_turn (machine s n).pc list n e)
    translate (suc turns) list n b e =
        ⊎_elim
        (λ (x : Ended (machine s n).pc list n). finish list n b x)
        (λ (x : Continued turns (machine s n).pc list n).
        let on = beside_next turns list n b x in
        translate turns x.more (suc n) on.1 (rw (on.0, ← add-one n) x.rest))
        (next_turn turns (machine s n).pc list n e)

    entered : Beside [] 0
    unfolding ran
    entered =
        record {
          in_block = first;
          above = record { above = []; untouched = sym (append-nil s.entering); held = none };
          before = λ j l. absurd (not-suc-le-zero l);
        }

    start : (machine s 0).pc ≡ s.leader
    unfolding ran
    start = refl

pub walk_translates : WalkTranslates
unfolding walk
walk_translates A Val s given slots count e speaks =
    translate s slots count given speaks (s.fault - s.leader) [] 0 (entered s slots count given speaks)
    (rw (start s slots count given speaks) e)
