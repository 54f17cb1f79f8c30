-- What is made of an attribute that is passed over does not matter to the run.
-- Assumes nothing.
use Rattle.std.specs.Prelude.{Result, Ok, Err}
use Prim.Native.Nat.{ℕ, ◌+◌}
use native.Mathlib.Omega.{arith}
use mathlib.Core.Path.{◌≡◌, refl, ◌∙◌, sym, ap}
use mathlib.Core.Bool.{Bool, true, false}
use mathlib.Core.List.{List}
use Rattle.basics.specs.Choice.{both}
use Rattle.format.specs.Format.{number_at, Reading, right, wrong, go_on, window_right, read_by}
use Rattle.format.specs.Items.{run_of}
use Rattle.format.proofs.Items.{Tells, failed}
use Rattle.classformat.specs.ClassFile.{passed_over}

pub passing :
    {A : Type 0} (a : A) {limit : ℕ} {file : List ℕ} {at : ℕ} {run : Result ℕ ℕ} → run ≡ run_of (read_by (passed_over limit (tt {0})) file at) →
    Tells run_of (passed_over limit a) file at run
unfolding read_by
passing {A} a {limit} {file} {at} is = record { is = by (window_right 4 limit file at) ∙ sym is }
  where
    by :
        (t : Bool) →
        run_of (go_on (both t true) at (at + 4 + number_at 4 file at) (λ next. right a next))
        ≡ run_of (go_on (both t true) at (at + 4 + number_at 4 file at) (λ next. right (tt {0}) next))
    by true = refl
    by false = refl

-- what is passed over makes what it was to make
module _ {A B : Type 0} {tell : Reading A → B} (a : A) {limit : ℕ} {file : List ℕ} {at : ℕ} where
  pub passed_right :
      {next : ℕ} → run_of (read_by (passed_over limit (tt {0})) file at) ≡ Ok next → Tells tell (passed_over limit a) file at (tell (right a next))
  unfolding read_by
  passed_right {next} is = record { is = ap tell (by (window_right 4 limit file at) is) }
    where
      by :
          (t : Bool) → run_of (go_on (both t true) at (at + 4 + number_at 4 file at) (λ n. right (tt {0}) n)) ≡ Ok next →
          go_on (both t true) at (at + 4 + number_at 4 file at) (λ n. right a n) ≡ right a next
      by true e = let same : at + 4 + number_at 4 file at ≡ next = cc in ap (λ (n : ℕ). right a n) same
      by false e = let z : ◌≡◌ {A = ℕ} 0 1 = cc in absurd (omega arith)

  pub passed_wrong :
      {place : ℕ} → run_of (read_by (passed_over limit (tt {0})) file at) ≡ Err place → Tells tell (passed_over limit a) file at (tell (wrong place))
  passed_wrong is = record { is = ap tell (failed _ (read_by (passed_over limit a) file at) (passing a (sym is)).is) }
