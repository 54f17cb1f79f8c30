-- How a walk ends: what its end means, that no other end does, and its count.
-- Assumes nothing.
use Prim.Native.Nat.{ℕ, zero, suc, ◌+◌, ◌-◌, ◌≤◌, ◌<◌}
use native.Mathlib.Nat.{eq-or-lt_of_le}
use native.Mathlib.Omega.{arith}
use mathlib.Core.Path.{◌≡◌, refl, ◌∙◌, sym, ap}
use mathlib.Core.Bool.{Bool, true, false}
use mathlib.Core.Logic.{⊎_elim}
use mathlib.Core.List.{List, []}
use lib.Dec.{ltb, eqb}
use lib.ListN.{length}
use borrow.Author.Tests.{lt-ltb, le-ltb, eq-eqb, ne_eqb, ltb-true, ltb-false}
use Rattle.basics.specs.Bytes.{AreBytes}
use Rattle.basics.specs.Choice.{pick}
use Rattle.effects.specs.Agreement.{Sized}
use Rattle.effects.specs.Lookup.{Lookup}
use Rattle.effects.specs.Rows.{Row}
use Rattle.walk.specs.Room.{completing, completed_from, completed}
use Rattle.walk.specs.Walk.{Reason, overshot, Marks, Outcome, stops, goes, passes, Walked, done, failed, count_of, step, ended, after, walk_from, walk}
use Rattle.walk.proofs.Step.{stepped, onward}
use Rattle.walks.specs.Comes.{Comes, first, then, Fails, stopped, passed, behind, Means, WalkDeclared}

module _ {A : Type 0} (marks : Marks A) (rows : ℕ → Row) (lookup : Lookup) (code : List ℕ) (fault leader : ℕ) where
  abbrev from : ℕ → ℕ → List A → ℕ → Walked A
  from turns pc list n = walk_from marks rows lookup code fault turns pc list n

  abbrev at : ℕ → List A → Outcome A
  at pc list = step marks rows lookup code fault pc list

  abbrev followed : ℕ → ℕ → ℕ → Outcome A → Walked A
  followed turns pc n outcome =
      after marks rows lookup code fault outcome pc n (λ next more. walk_from marks rows lookup code fault turns next more (n + 1))

  -- ---- one turn, and none

  turn : (turns pc n : ℕ) (list : List A) → pc < fault → from (suc turns) pc list n ≡ followed turns pc n (at pc list)
  unfolding walk_from
  turn turns pc n list short = rw (lt-ltb pc fault short)

  ends_at : (turns pc n : ℕ) (list : List A) → pc ≡ fault → from turns pc list n ≡ done list n
  unfolding walk_from
  ends_at zero pc n list e = rw (eq-eqb pc fault e)
  ends_at (suc turns) pc n list e = rw (le-ltb pc fault (omega arith), eq-eqb pc fault e)

  ends_behind : (turns pc n : ℕ) (list : List A) → fault < pc → from turns pc list n ≡ failed n pc overshot
  unfolding walk_from
  ends_behind zero pc n list l = rw (ne_eqb pc fault (λ e. omega arith))
  ends_behind (suc turns) pc n list l = rw (le-ltb pc fault (omega arith), ne_eqb pc fault (λ e. omega arith))

  -- ---- the count

  end_counted : (pc n : ℕ) (list : List A) → count_of (ended marks rows lookup code fault pc list n) ≡ n + 0
  end_counted pc n list = by_test (eqb pc fault)
    where
      by_test : (b : Bool) → count_of (pick b (done list n) (failed n pc overshot)) ≡ n + 0
      by_test true = omega arith
      by_test false = omega arith

  counted :
      (turns pc n : ℕ) (list : List A) →
      count_of (from turns pc list n) ≡ n + length (completed_from marks rows lookup code fault turns pc list)
  unfolding walk_from completed_from
  counted zero pc n list = end_counted pc n list
  counted (suc turns) pc n list = by_test (ltb pc fault) (λ next more. counted turns next (n + 1) more)
    where
      Rest : Type 0
      Rest =
          (next : ℕ) (more : List A) →
          count_of (from turns next more (n + 1)) ≡ n + 1 + length (completed_from marks rows lookup code fault turns next more)

      by_outcome :
          Rest → (x : Outcome A) →
          count_of (followed turns pc n x)
          ≡ n + length
          (completing marks rows lookup code fault x pc (λ next more. completed_from marks rows lookup code fault turns next more))
      by_outcome rest (stops reason) = omega arith
      by_outcome rest (goes next more) = omega (arith, rest next more)
      by_outcome rest (passes more) = omega arith

      by_test :
          (b : Bool) → Rest →
          count_of (pick b (followed turns pc n (at pc list)) (ended marks rows lookup code fault pc list n))
          ≡ n + length
          (pick b
          (completing marks rows lookup code fault (at pc list) pc
          (λ next more. completed_from marks rows lookup code fault turns next more))
          [])
      by_test true rest = by_outcome rest (at pc list)
      by_test false rest = end_counted pc n list

  module _ (sized : Sized rows) (bytes : AreBytes code) where
    abbrev Meant : Walked A → Type 0
    Meant = Means marks rows lookup code fault leader

    abbrev Come : ℕ → ℕ → List A → Type 0
    Come = Comes marks rows lookup code fault leader

    -- ---- the end means what it says

    means_from :
        (turns pc n : ℕ) (list : List A) → Come n pc list → pc ≤ fault → fault - pc ≤ turns → Meant (from turns pc list n)
    means_from zero pc n list c low enough =
        let e : pc ≡ fault = omega arith in
        rw (ends_at 0 pc n list e) (rw e at c)
    means_from (suc turns) pc n list c low enough =
        ⊎_elim
        (λ (e : pc ≡ fault). rw (ends_at (suc turns) pc n list e) (rw e at c))
        (λ (l : pc < fault).
        rw (turn turns pc n list l)
        (by_outcome l (λ next more d short. means_from turns next (n + 1) more d short) (at pc list) refl))
        (eq-or-lt_of_le low)
      where
        Rest : Type 0
        Rest =
            (next : ℕ) (more : List A) → Come (n + 1) next more → next ≤ fault → fault - next ≤ turns →
            Meant (from turns next more (n + 1))

        by_outcome : pc < fault → Rest → (x : Outcome A) → at pc list ≡ x → Meant (followed turns pc n x)
        by_outcome l rest (stops reason) e = stopped c l e
        by_outcome l rest (goes next more) e =
            let up : pc < next = onward marks rows lookup code fault pc list sized bytes next more e in
            rest next more (then c l e tt) (stepped marks rows lookup code fault pc list next more e).not_past (omega arith)
        by_outcome l rest (passes more) e = passed c l e

    meant : Meant (walk marks rows lookup code fault leader)
    unfolding walk
    meant = by_place (ltb fault leader) refl
      where
        by_place : (b : Bool) → ltb fault leader ≡ b → Meant (from (fault - leader) leader [] 0)
        by_place true e =
            let l : fault < leader = ltb-true fault leader e in
            rw (ends_behind (fault - leader) leader 0 [] l) (behind (omega arith))
        by_place false e = means_from (fault - leader) leader 0 [] first (ltb-false fault leader e) (omega arith)

    -- ---- and no other does

    -- the walk from where it comes to is the walk from the leader
    record Along (count pc : ℕ) (list : List A) : Type 0 where
      far : leader + count ≤ pc
      same : walk marks rows lookup code fault leader ≡ from (fault - leader - count) pc list count

    -- there is a turn for what follows
    turned :
        (count pc : ℕ) (list : List A) → Along count pc list → pc < fault →
        walk marks rows lookup code fault leader ≡ followed (fault - leader - (count + 1)) pc count (at pc list)
    turned count pc list a l =
        let more : fault - leader - count ≡ suc (fault - leader - (count + 1)) = omega (arith, a.far) in
        a.same ∙ ap (λ (turns : ℕ). from turns pc list count) more ∙ turn (fault - leader - (count + 1)) pc count list l

    along : {count pc : ℕ} {list : List A} → Come count pc list → Along count pc list
    unfolding walk
    along first =
        let none : fault - leader ≡ fault - leader - 0 = omega arith in
        record { far = omega arith; same = ap (λ (turns : ℕ). from turns leader [] 0) none }
    along (then {count} {pc} {next} {list} {slots} c l e fits) =
        let a = along c in
        let up : pc < next = onward marks rows lookup code fault pc list sized bytes next slots e in
        record {
          far = omega (arith, a.far);
          same = turned count pc list a l ∙ ap (followed (fault - leader - (count + 1)) pc count) e;
        }

    only_failed :
        {count index : ℕ} {reason : Reason} → Fails marks rows lookup code fault leader count index reason →
        failed count index reason ≡ walk marks rows lookup code fault leader
    unfolding walk
    only_failed (stopped {count} {pc} {list} {reason} c l e) =
        sym (turned count pc list (along c) l ∙ ap (followed (fault - leader - (count + 1)) pc count) e)
    only_failed (passed {count} {pc} {list} {slots} c l e) =
        sym (turned count pc list (along c) l ∙ ap (followed (fault - leader - (count + 1)) pc count) e)
    only_failed (behind l) = sym (ends_behind (fault - leader) leader 0 [] (omega arith))

    only_meant : (end : Walked A) → Meant end → end ≡ walk marks rows lookup code fault leader
    only_meant (done slots count) c = sym ((along c).same ∙ ends_at (fault - leader - count) fault count slots refl)
    only_meant (failed count index reason) f = only_failed f

pub walk_declared : WalkDeclared
unfolding walk completed
walk_declared =
    record {
      means = λ A marks rows lookup code fault leader sized bytes. meant marks rows lookup code fault leader sized bytes;
      only = λ A marks rows lookup code fault leader sized bytes. only_meant marks rows lookup code fault leader sized bytes;
      counts = λ A marks rows lookup code fault leader.
          counted marks rows lookup code fault leader (fault - leader) leader 0 [] ∙ omega arith;
    }
