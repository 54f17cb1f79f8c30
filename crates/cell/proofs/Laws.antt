-- A cell tells its load.
-- Assumes nothing.
use Rattle.std.specs.Prelude.{Some, None}
use Prim.Native.Nat.{ℕ, ◌-◌, ◌/◌, ◌%◌, ◌<◌}
use native.Mathlib.Omega.{arith}
use mathlib.Core.Path.{◌≡◌, refl, ◌∙◌, sym, ap, ap₂}
use mathlib.Core.Bool.{Bool, true, false}
use lib.Dec.{eqb}
use borrow.Author.Tests.{ne_eqb, eqb-true, eqb-false}
use Rattle.std.proofs.lemmas.Option.{same_Some}
use Rattle.basics.specs.Choice.{pick}
use Rattle.cell.specs.declared.Load.{Load}
use Rattle.cell.specs.Cell.{cell_of, has_cell, packed, some_load, unpacked}
use Rattle.cell.specs.Laws.{CellInjective, NoLoadIsZero, LoadUnpacks, PackedUnpacks, CellOfUnpacked, ZeroIsOther}
use Rattle.cell.specs.Laws.{OtherIsZero}

pub cell_injective : CellInjective
cell_injective load local load' local' small small' e = (omega arith, omega arith)

pub no_load_is_zero : NoLoadIsZero
no_load_is_zero load local e = absurd (omega arith)

-- ---- packed

pub held_so :
    (load local cell : ℕ) → packed load local ≡ Some cell →
    (has_cell load local ≡ true) × (cell ≡ cell_of load local)
held_so load local cell e = by_test (has_cell load local) (cell_of load local) e
  where
    by_test : (b : Bool) (k : ℕ) → pick b (Some k) None ≡ Some cell → (b ≡ true) × (cell ≡ k)
    by_test true k e = let same : k ≡ cell = cc in (refl, sym same)
    by_test false k e = absurd cc

pub too_large : (load local : ℕ) → packed load local ≡ None → has_cell load local ≡ false
too_large load local e = by_test (has_cell load local) (cell_of load local) e
  where
    by_test : (b : Bool) (k : ℕ) → pick b (Some k) None ≡ None → b ≡ false
    by_test true k e = absurd cc
    by_test false k e = refl

-- ---- unpacked

pub load_unpacks : LoadUnpacks
load_unpacks load local small =
    let high : (cell_of load local - 1) / 65536 ≡ load = omega arith in
    let low : (cell_of load local - 1) % 65536 ≡ local = omega arith in
    rw (ne_eqb (cell_of load local) 0 (no_load_is_zero load local)) (ap₂ some_load high low)

pub packed_unpacks : PackedUnpacks
packed_unpacks load local cell small e = ap unpacked (held_so load local cell e).1 ∙ load_unpacks load local small

pub zero_is_other : ZeroIsOther
zero_is_other = refl

pub other_is_zero : OtherIsZero
other_is_zero cell e = by_test (eqb cell 0) refl e
  where
    by_test : (b : Bool) → eqb cell 0 ≡ b → pick b None (some_load ((cell - 1) / 65536) ((cell - 1) % 65536)) ≡ None → cell ≡ 0
    by_test true t e = eqb-true cell 0 t
    by_test false t e = absurd cc

pub cell_of_unpacked : CellOfUnpacked
cell_of_unpacked cell load local e = by_test (eqb cell 0) refl e
  where
    by_test :
        (b : Bool) → eqb cell 0 ≡ b → pick b None (some_load ((cell - 1) / 65536) ((cell - 1) % 65536)) ≡ some_load load local →
        (cell ≡ cell_of load local) × (local < 65536)
    by_test true t e = absurd cc
    by_test false t e =
        let same = same_Some _ _ e in
        let high : (cell - 1) / 65536 ≡ load = ap (λ (l : Load). l.load) same in
        let low : (cell - 1) % 65536 ≡ local = ap (λ (l : Load). l.local) same in
        let some : cell ≡ 0 → ⊥ = eqb-false cell 0 t in
        (omega (arith, high, low, some), omega (arith, low))
