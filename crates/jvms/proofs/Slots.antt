-- The slots below and on top of a stack, and locals that slots are written into.
-- Assumes nothing.
use Prim.Native.Nat.{ℕ, suc, ◌+◌, ◌-◌, ◌≤◌}
use native.Mathlib.Omega.{arith}
use native.Mathlib.Nat.{sub-zero}
use mathlib.Core.Path.{◌≡◌, refl, ◌∙◌, ap}
use mathlib.Core.List.{List, [], ◌∷◌, ◌++◌}
use lib.ListN.{length, take, length-append, length-drop, take-append-drop}
use lib.Seq.{take_at, drop_at, take_all, take-length}
use borrow.Author.Tests.{eq-eqb, ne_eqb}
use Rattle.jvms.specs.Laws.{WroteOne, WroteTwo}
use Rattle.jvms.specs.Machine.{below, topmost, written}

module _ {Val : Type 0} where
  -- where the topmost slots are known
  pub below_them : (s vs : List Val) → below (length vs) (s ++ vs) ≡ s
  below_them s vs = take_at s vs (length (s ++ vs) - length vs) (omega (arith, length-append s vs))

  pub topmost_them : (s vs : List Val) → topmost (length vs) (s ++ vs) ≡ vs
  topmost_them s vs = drop_at s vs (length (s ++ vs) - length vs) (omega (arith, length-append s vs))

  -- where none is taken
  pub below_none : (s : List Val) → below 0 s ≡ s
  below_none s = ap (λ (n : ℕ). take n s) (sub-zero (length s)) ∙ take-length s

  -- no more are taken than asked for
  pub topmost_few : (n : ℕ) (s : List Val) → length (topmost n s) ≤ n
  topmost_few n s = omega (arith, length-drop (length s - n) s)

  -- the slots below and these are the stack
  pub put_back : (n : ℕ) (s : List Val) → below n s ++ take n (topmost n s) ≡ s
  put_back n s =
      ap (λ (r : List Val). below n s ++ r) (take_all n (topmost n s) (topmost_few n s)) ∙ take-append-drop (length s - n) s

  -- ---- locals

  written_there : (locals : ℕ → Val) (n : ℕ) (v : Val) (vs : List Val) → written locals n (v ∷ vs) n ≡ v
  written_there locals n v vs = rw (eq-eqb n n refl)

  written_other :
      (locals : ℕ → Val) (n : ℕ) (v : Val) (vs : List Val) (i : ℕ) → (i ≡ n → ⊥) →
      written locals n (v ∷ vs) i ≡ written locals (suc n) vs i
  written_other locals n v vs i other = rw (ne_eqb i n other)

  -- locals behind the last that is written are as before
  pub written_beyond :
      (locals : ℕ → Val) (n : ℕ) (vs : List Val) (i : ℕ) → n + length vs ≤ i → written locals n vs i ≡ locals i
  written_beyond locals n [] i beyond = refl
  written_beyond locals n (v ∷ vs) i beyond =
      written_other locals n v vs i (λ e. omega arith) ∙ written_beyond locals (suc n) vs i (omega arith)

  pub wrote_one : (locals : ℕ → Val) (n : ℕ) (v : Val) → WroteOne locals (written locals n (v ∷ [])) n v
  wrote_one locals n v =
      record { there = written_there locals n v []; elsewhere = λ i other. written_other locals n v [] i other }

  pub wrote_two : (locals : ℕ → Val) (n : ℕ) (v w : Val) → WroteTwo locals (written locals n (v ∷ w ∷ [])) n v w
  wrote_two locals n v w =
      let next : n + 1 ≡ suc n = omega arith in
      record {
        there = written_there locals n v (w ∷ []);
        behind =
            written_other locals n v (w ∷ []) (n + 1) (λ e. omega arith)
            ∙ ap (written locals (suc n) (w ∷ [])) next ∙ written_there locals (suc n) w [];
        elsewhere =
            λ i other another. written_other locals n v (w ∷ []) i other
            ∙ written_other locals (suc n) w [] i (λ e. another (omega arith));
      }
