-- A walk in document 01's model goes alike by document 01's cells and by those in use: it loads no local above 255, and the cells of the
-- others hold the same by both.
-- Assumes nothing.
use Rattle.std.specs.Prelude.{Option, Some, None}
use Prim.Native.Nat.{ℕ, ◌+◌, ◌-◌, ◌/◌, ◌%◌, ◌^◌, ◌<◌}
use native.Mathlib.Omega.{arith}
use mathlib.Core.Path.{◌≡◌, refl, ◌∙◌, sym, ap₂}
use mathlib.Core.Bool.{Bool, true, false}
use mathlib.Core.List.{List}
use lib.Dec.{T, eqb, ltb, ltb→lt}
use lib.ListN.{length}
use borrow.Author.Tests.{ne_eqb, le-leb}
use Rattle.basics.specs.Bytes.{byte_at, u16_at, AreBytes}
use Rattle.basics.specs.Choice.{pick}
use Rattle.basics.proofs.Every.{every_at}
use Rattle.jvms.specs.Stack.{key_at, key_count}
use Rattle.jvms.proofs.Keys.{key_below}
use Rattle.cell.specs.Cell.{cell_of, has_cell, some_load}
use Rattle.cell.proofs.Laws.{load_unpacks}
use Rattle.descriptor.specs.Readers.{parameters, return_slots}
use Rattle.descriptor.specs.declared.Params.{Params}
use Rattle.effects.specs.Lookup.{Known, missing, known, Lookup}
use Rattle.effects.specs.Rows.{Row, unmodelled, opaque, aload, aload_far, aload_of, carries, keeps, gets, calls, puts, makes, row_of}
use Rattle.walk.specs.Walk.{not_modelled, cut, blanks, load, Effect, fails, does, getting, putting, making, called, calling, effect_by, cells}
use Rattle.walks.specs.Cells.{document_cell, document_cells, SameSlot, PresentWalks}
use Rattle.walks.specs.Marks.{Related}
use Rattle.walks.proofs.Alike.{walk_both}

-- ---- effects that load nothing

module _ (takes local : ℕ) where
  abbrev Loads : Effect → Type 0
  Loads effect = effect ≡ does takes (load local)

  uncut_loads : {P : Type 0} (b : Bool) (effect : Effect) → (Loads effect → P) → Loads (pick b effect (fails cut)) → P
  uncut_loads true effect not e = not e
  uncut_loads false effect not e = let z : ◌≡◌ {A = ℕ} 0 1 = cc in absurd (omega arith)

  getting_not : {P : Type 0} (t : ℕ) (k : Known) → Loads (getting t k) → P
  getting_not t missing e = let z : ◌≡◌ {A = ℕ} 0 1 = cc in absurd (omega arith)
  getting_not t (known d) e = let z : ◌≡◌ {A = ℕ} 0 1 = cc in absurd (omega arith)

  putting_not : {P : Type 0} (t : ℕ) (k : Known) → Loads (putting t k) → P
  putting_not t missing e = let z : ◌≡◌ {A = ℕ} 0 1 = cc in absurd (omega arith)
  putting_not t (known d) e = let z : ◌≡◌ {A = ℕ} 0 1 = cc in absurd (omega arith)

  called_not : {P : Type 0} (t : ℕ) (p : Option Params) (r : Option ℕ) → Loads (called t p r) → P
  called_not t (Some p) (Some n) e = let z : ◌≡◌ {A = ℕ} 0 1 = cc in absurd (omega arith)
  called_not t (Some p) None e = let z : ◌≡◌ {A = ℕ} 0 1 = cc in absurd (omega arith)
  called_not t None r e = let z : ◌≡◌ {A = ℕ} 0 1 = cc in absurd (omega arith)

  calling_not : {P : Type 0} (t : ℕ) (k : Known) → Loads (calling t k) → P
  calling_not t missing e = let z : ◌≡◌ {A = ℕ} 0 1 = cc in absurd (omega arith)
  calling_not t (known d) e = called_not t (parameters d) (return_slots d) e

  making_not : {P : Type 0} (dimensions : ℕ) → Loads (making dimensions) → P
  making_not {P} dimensions e = by_test (eqb dimensions 0) e
    where
      by_test : (b : Bool) → Loads (pick b (fails not_modelled) (does dimensions (blanks 1))) → P
      by_test true q = let z : ◌≡◌ {A = ℕ} 0 1 = cc in absurd (omega arith)
      by_test false q = let z : ◌≡◌ {A = ℕ} 0 1 = cc in absurd (omega arith)

-- ---- the locals that document 01's rows load

abbrev loads_byte : Row → Bool
loads_byte unmodelled = true
loads_byte (opaque taken given) = true
loads_byte aload = true
loads_byte aload_far = false
loads_byte (aload_of local) = ltb local 256
loads_byte (carries taken places) = true
loads_byte keeps = true
loads_byte (gets taken) = true
loads_byte (calls taken) = true
loads_byte (puts taken) = true
loads_byte makes = true

all_load_bytes : (key : ℕ) → key < key_count → T (loads_byte (row_of key))
unfolding row_of
all_load_bytes key below = every_at (λ k. loads_byte (row_of k)) key_count tt key below

module _ (lookup : Lookup) (code : List ℕ) (are : AreBytes code) (pc takes local : ℕ) where
  near : (row : Row) → T (loads_byte row) → effect_by lookup code pc row ≡ does takes (load local) → local < 256
  near unmodelled t e = let z : ◌≡◌ {A = ℕ} 0 1 = cc in absurd (omega arith)
  near (opaque taken given) t e = let z : ◌≡◌ {A = ℕ} 0 1 = cc in absurd (omega arith)
  near aload t e =
      uncut_loads takes local (ltb (pc + 1) (length code)) (does 0 (load (byte_at code (pc + 1))))
      (λ q. let same : byte_at code (pc + 1) ≡ local = cc in omega (arith, same, are (pc + 1)))
      e
  near aload_far t e = absurd t
  near (aload_of l) t e = let same : l ≡ local = cc in omega (arith, same, ltb→lt l 256 t)
  near (carries taken places) t e = let z : ◌≡◌ {A = ℕ} 0 1 = cc in absurd (omega arith)
  near keeps t e = let z : ◌≡◌ {A = ℕ} 0 1 = cc in absurd (omega arith)
  near (gets taken) t e =
      uncut_loads takes local (ltb (pc + 2) (length code)) (getting taken (lookup 0 (u16_at code (pc + 1))))
      (getting_not takes local taken (lookup 0 (u16_at code (pc + 1)))) e
  near (calls taken) t e =
      uncut_loads takes local (ltb (pc + 2) (length code)) (calling taken (lookup 1 (u16_at code (pc + 1))))
      (calling_not takes local taken (lookup 1 (u16_at code (pc + 1)))) e
  near (puts taken) t e =
      uncut_loads takes local (ltb (pc + 2) (length code)) (putting taken (lookup 0 (u16_at code (pc + 1))))
      (putting_not takes local taken (lookup 0 (u16_at code (pc + 1)))) e
  near makes t e =
      uncut_loads takes local (ltb (pc + 3) (length code)) (making (byte_at code (pc + 3)))
      (making_not takes local (byte_at code (pc + 3))) e

-- ---- their cells

same_cells : (pc local : ℕ) → local < 256 → SameSlot (document_cell pc local) (cell_of pc local)
same_cells pc local small =
    let high : (document_cell pc local - 1) / 256 ≡ pc = omega arith in
    let low : (document_cell pc local - 1) % 256 ≡ local = omega arith in
    rw (ne_eqb (document_cell pc local) 0 (λ e. omega (arith, e))) (ap₂ some_load high low)
    ∙ sym (load_unpacks pc local (omega (arith, small)))

same_holds : (pc local : ℕ) → local < 256 → pc < 2 ^ 48 → document_cells.holds pc local ≡ has_cell pc local
same_holds pc local small near =
    le-leb (document_cell pc local) (2 ^ 64 - 1) (omega (arith, small, near))
    ∙ sym (le-leb (cell_of pc local) (2 ^ 64 - 1) (omega (arith, small, near)))

pub present_walks : PresentWalks
present_walks lookup code are short fault leader = walk_both ℕ ℕ SameSlot document_cells cells row_of lookup code related fault leader
  where
    small : (pc takes local : ℕ) → effect_by lookup code pc (row_of (key_at code pc)) ≡ does takes (load local) → local < 256
    small pc takes local e =
        near lookup code are pc takes local (row_of (key_at code pc)) (all_load_bytes (key_at code pc) (key_below code are pc)) e

    related : Related SameSlot document_cells cells row_of lookup code
    related =
        record {
          blanks = λ pc inside. refl;
          loads = λ pc takes local inside e. same_cells pc local (small pc takes local e);
          holds = λ pc takes local inside e. same_holds pc local (small pc takes local e) (omega (arith, inside, short));
        }
