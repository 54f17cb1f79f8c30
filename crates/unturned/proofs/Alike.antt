-- Two texts that are alike: the bytes that descriptors are made of stand in both, and between them runs of other bytes.
-- Assumes nothing.
use Prim.Native.Nat.{ℕ, ◌≤◌}
use mathlib.Core.Bool.{false}
use mathlib.Core.List.{List, [], ◌∷◌, ◌++◌}
use mathlib.Core.Path.{◌≡◌, refl, sym}
use lib.Dec.{T, eqb}
use borrow.Author.Tests.{ne_eqb}
use Rattle.basics.specs.Choice.{between}
use Rattle.utf8.proofs.Ranges.{from_low, to_high}

-- ---- bytes that no reader asks for

-- no byte from 1 to 127
abbrev pub Strange : ℕ → Type 0
Strange x = (asked : ℕ) → 1 ≤ asked → asked ≤ 127 → x ≡ asked → ⊥

module _ {x : ℕ} (strange : Strange x) (asked : ℕ) (small : T (between 1 127 asked)) where
  pub not_asked : x ≡ asked → ⊥
  not_asked = strange asked (from_low 1 127 asked small) (to_high 1 127 asked small)

  pub is_other : eqb x asked ≡ false
  is_other = ne_eqb x asked not_asked

  pub no_other : eqb asked x ≡ false
  no_other = ne_eqb asked x (λ e. not_asked (sym e))

-- one of them at least
pub data Strangers : List ℕ → Type 0 where
  only_one : {x : ℕ} → Strange x → Strangers (x ∷ [])
  one_more : {x : ℕ} {xs : List ℕ} → Strange x → Strangers xs → Strangers (x ∷ xs)

-- ---- the relation

pub data Alike : List ℕ → List ℕ → Type 0 where
  both_end : Alike [] []
  same_byte : {x : ℕ} {text turned : List ℕ} → Alike text turned → Alike (x ∷ text) (x ∷ turned)
  strange_runs :
      {run other text turned : List ℕ} →
      Strangers run → Strangers other → Alike text turned → Alike (run ++ text) (other ++ turned)

-- ---- what two such texts start with

pub record Headed (xs : List ℕ) : Type 0 where
  pub byte : ℕ
  pub rest : List ℕ
  pub is : xs ≡ byte ∷ rest
  pub strange : Strange byte

pub headed : {run : List ℕ} → Strangers run → (text : List ℕ) → Headed (run ++ text)
headed (only_one {x} s) text = record { byte = x; rest = text; is = refl; strange = s }
headed (one_more {x} {xs} s more) text = record { byte = x; rest = xs ++ text; is = refl; strange = s }

pub data Start (xs ys : List ℕ) : Type 0 where
  no_byte : xs ≡ [] → ys ≡ [] → Start xs ys
  one_byte : (x : ℕ) (text turned : List ℕ) → xs ≡ x ∷ text → ys ≡ x ∷ turned → Alike text turned → Start xs ys
  strange_bytes : Headed xs → Headed ys → Start xs ys

pub start : {xs ys : List ℕ} → Alike xs ys → Start xs ys
start both_end = no_byte refl refl
start (same_byte {x} {text} {turned} alike) = one_byte x text turned refl refl alike
start (strange_runs {run} {other} {text} {turned} s r alike) = strange_bytes (headed s text) (headed r turned)
