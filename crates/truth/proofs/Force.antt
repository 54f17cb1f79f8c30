-- Condition 3 has force: a walk's list with one opaque slot marked as a load, with one load's local or index changed, or with a copy in
-- a wrong place, is refuted; and a list with a load marked opaque is not the walk's.
-- Assumes nothing.
use Prim.Native.Nat.{ℕ, zero, suc, ◌+◌, ◌<◌}
use native.Mathlib.Omega.{arith}
use mathlib.Core.Path.{◌≡◌, refl, ◌∙◌, sym, ap}
use mathlib.Core.List.{List, [], ◌∷◌}
use lib.Dec.{lit<}
use lib.ListN.{length, get_or}
use Rattle.basics.specs.Bytes.{u16_at}
use Rattle.jvms.specs.Extent.{extent_at}
use Rattle.jvms.specs.Format.{format_of}
use Rattle.jvms.specs.Machine.{Pool, State, ran}
use Rattle.jvms.specs.Stack.{entry_of}
use Rattle.fixed.specs.Fixed.{fixed_length}
use Rattle.effects.specs.Rows.{row_of, added_row, widened_row, full_row_of}
use Rattle.effects.specs.declared.Model.TheVariants.{Document, Full}
use Rattle.walk.specs.Room.{completed_from, completed, block_walk, block_walk_in, cells_of}
use Rattle.cell.specs.Cell.{cell_of}
use Rattle.walk.specs.Walk.{step, walk_from, walk}
use Rattle.truth.specs.Cause.{Leaves, HasForce}
use Rattle.truth.specs.Translation.{since, TrueTranslation}

-- a machine on numbers: an opaque result is 1, and a local holds its own number
abbrev numbers : Pool → List ℕ → ℕ → State ℕ
numbers pool code = since pool code (λ index k. 1) 0 [] (λ n. n)

-- so where the instructions leave another number in a place than that of a local, which is never written, that is not what this local
-- held at any of them
module _ (code : List ℕ) (pool : Pool) (fault count : ℕ) (wrong : List ℕ) where
  untrue_of :
      (place b n v : ℕ) → n < 65536 → (v ≡ n → ⊥) → ((j : ℕ) → j < count → (numbers pool code j).locals n ≡ n) →
      get_or (numbers pool code count).stack (0 + place) 0 ≡ v → place < length wrong → get_or wrong place 0 ≡ cell_of b n →
      TrueTranslation code pool 0 fault wrong count → ⊥
  untrue_of place b n v small other kept leaves inside marked t =
      let loaded = (t ℕ (λ index k. 1) [] (λ n. n)).holds place b n 0 inside small marked in
      other (sym leaves ∙ loaded.held ∙ kept loaded.turn loaded.ran)

  -- 1, and local 0
  refuted :
      (place b : ℕ) → ((j : ℕ) → j < count → (numbers pool code j).locals 0 ≡ 0) →
      get_or (numbers pool code count).stack (0 + place) 0 ≡ 1 → place < length wrong → get_or wrong place 0 ≡ cell_of b 0 →
      TrueTranslation code pool 0 fault wrong count → ⊥
  refuted place b = untrue_of place b 0 1 (lit< tt) (λ e. omega (arith, e))

  -- and where no instruction stands at an index, nothing is what a local held when that index ran
  unmoved :
      (place b n : ℕ) → n < 65536 → ((j : ℕ) → j < count → (numbers pool code j).pc ≡ b → ⊥) → place < length wrong →
      get_or wrong place 0 ≡ cell_of b n → TrueTranslation code pool 0 fault wrong count → ⊥
  unmoved place b n small elsewhere inside marked t =
      let loaded = (t ℕ (λ index k. 1) [] (λ n. n)).holds place b n 0 inside small marked in
      elsewhere loaded.turn loaded.ran loaded.there

-- ---- the blocks: what their walks leave, and that none writes a local

abbrev null_code : List ℕ
null_code = 0x01 ∷ 0xbe ∷ []

null_walked : Leaves Document null_code 1 1 (0 ∷ [])
unfolding block_walk_in completed completed_from walk walk_from step row_of fixed_length format_of
null_walked = refl

null_keeps : (pool : Pool) (j : ℕ) → j < 1 → (numbers pool null_code j).locals 0 ≡ 0
unfolding ran
null_keeps pool zero below = refl
null_keeps pool (suc j) below = absurd (omega arith)

null_leaves : (pool : Pool) → get_or (numbers pool null_code 1).stack 0 0 ≡ 1
unfolding ran entry_of
null_leaves pool = refl

abbrev load_code : List ℕ
load_code = 0x2b ∷ 0xbe ∷ []

load_walked : Leaves Document load_code 1 1 (cell_of 0 1 ∷ [])
unfolding block_walk_in completed completed_from walk walk_from step row_of fixed_length format_of
load_walked = refl

load_keeps : (pool : Pool) (j : ℕ) → j < 1 → (numbers pool load_code j).locals 0 ≡ 0
unfolding ran
load_keeps pool zero below = refl
load_keeps pool (suc j) below = absurd (omega arith)

load_leaves : (pool : Pool) → get_or (numbers pool load_code 1).stack 0 0 ≡ 1
unfolding ran entry_of
load_leaves pool = refl

abbrev mixed_code : List ℕ
mixed_code = 0x2a ∷ 0x01 ∷ 0xbe ∷ []

mixed_walked : Leaves Document mixed_code 2 2 (cell_of 0 0 ∷ 0 ∷ [])
unfolding block_walk_in completed completed_from walk walk_from step row_of fixed_length format_of
mixed_walked = refl

mixed_keeps : (pool : Pool) (j : ℕ) → j < 2 → (numbers pool mixed_code j).locals 0 ≡ 0
unfolding ran entry_of
mixed_keeps pool zero below = refl
mixed_keeps pool (suc zero) below = refl
mixed_keeps pool (suc (suc j)) below = absurd (omega arith)

mixed_leaves : (pool : Pool) → get_or (numbers pool mixed_code 2).stack 1 0 ≡ 1
unfolding ran entry_of format_of extent_at
mixed_leaves pool = refl

abbrev loads_code : List ℕ
loads_code = 0x2a ∷ 0x2b ∷ 0xbe ∷ []

loads_walked : Leaves Document loads_code 2 2 (cell_of 0 0 ∷ cell_of 1 1 ∷ [])
unfolding block_walk_in completed completed_from walk walk_from step row_of fixed_length format_of
loads_walked = refl

loads_other : cells_of 2 (block_walk loads_code [] 0 0 2 2) ≡ cell_of 0 0 ∷ 0 ∷ [] → ⊥
loads_other e =
    let second : cell_of 1 1 ≡ 0 = rw loads_walked at (ap (λ (cells : List ℕ). get_or cells 1 0) e) in
    omega (arith, second)

abbrev neg_code : List ℕ
neg_code = 0x2a ∷ 0x74 ∷ 0xbe ∷ []

neg_walked : Leaves Full neg_code 2 2 (0 ∷ [])
unfolding block_walk_in completed completed_from walk walk_from step row_of added_row widened_row full_row_of fixed_length format_of
neg_walked = refl

neg_keeps : (pool : Pool) (j : ℕ) → j < 2 → (numbers pool neg_code j).locals 0 ≡ 0
unfolding ran entry_of
neg_keeps pool zero below = refl
neg_keeps pool (suc zero) below = refl
neg_keeps pool (suc (suc j)) below = absurd (omega arith)

neg_leaves : (pool : Pool) → get_or (numbers pool neg_code 2).stack 0 0 ≡ 1
unfolding ran entry_of format_of extent_at
neg_leaves pool = refl

abbrev copy_code : List ℕ
copy_code = 0x2a ∷ 0x2b ∷ 0x5a ∷ 0xbe ∷ []

copy_walked : Leaves Full copy_code 3 3 (cell_of 1 1 ∷ cell_of 0 0 ∷ cell_of 1 1 ∷ [])
unfolding block_walk_in completed completed_from walk walk_from step row_of added_row widened_row full_row_of fixed_length format_of
copy_walked = refl

copy_keeps : (pool : Pool) (j : ℕ) → j < 3 → (numbers pool copy_code j).locals 0 ≡ 0
unfolding ran entry_of format_of extent_at
copy_keeps pool zero below = refl
copy_keeps pool (suc zero) below = refl
copy_keeps pool (suc (suc zero)) below = refl
copy_keeps pool (suc (suc (suc j))) below = absurd (omega arith)

-- what lies at the bottom is local 1's
copy_leaves : (pool : Pool) → get_or (numbers pool copy_code 3).stack 0 0 ≡ 1
unfolding ran entry_of format_of extent_at
copy_leaves pool = refl

abbrev far_code : List ℕ
far_code = 0xc4 ∷ 0x19 ∷ 1 ∷ 44 ∷ 0xbe ∷ []

far_walked : Leaves Full far_code 4 1 (cell_of 0 300 ∷ [])
unfolding block_walk_in completed completed_from walk walk_from step row_of added_row widened_row full_row_of fixed_length format_of u16_at
far_walked = refl

far_keeps : (pool : Pool) (j : ℕ) → j < 1 → (numbers pool far_code j).locals 44 ≡ 44
unfolding ran
far_keeps pool zero below = refl
far_keeps pool (suc j) below = absurd (omega arith)

far_leaves : (pool : Pool) → get_or (numbers pool far_code 1).stack 0 0 ≡ 300
unfolding ran entry_of u16_at
far_leaves pool = refl

far_starts : (pool : Pool) (j : ℕ) → j < 1 → (numbers pool far_code j).pc ≡ 1 → ⊥
unfolding ran
far_starts pool zero below e = omega (arith, e)
far_starts pool (suc j) below e = absurd (omega arith)

pub has_force : HasForce
has_force =
    record {
      opaque_marked =
          record {
            walked = null_walked;
            untrue = λ pool. refuted null_code pool 1 1 _ 0 0 (null_keeps pool) (null_leaves pool) (lit< tt) refl;
          };
      local_changed =
          record {
            walked = load_walked;
            untrue = λ pool. refuted load_code pool 1 1 _ 0 0 (load_keeps pool) (load_leaves pool) (lit< tt) refl;
          };
      rest_marked =
          record {
            walked = mixed_walked;
            untrue = λ pool. refuted mixed_code pool 2 2 _ 1 1 (mixed_keeps pool) (mixed_leaves pool) (lit< tt) refl;
          };
      rest_opaque = record { walked = loads_walked; other = loads_other };
      result_marked =
          record {
            walked = neg_walked;
            untrue = λ pool. refuted neg_code pool 2 2 _ 0 0 (neg_keeps pool) (neg_leaves pool) (lit< tt) refl;
          };
      copy_misplaced =
          record {
            walked = copy_walked;
            untrue = λ pool. refuted copy_code pool 3 3 _ 0 0 (copy_keeps pool) (copy_leaves pool) (lit< tt) refl;
          };
      local_cut =
          record {
            walked = far_walked;
            untrue = λ pool.
                untrue_of far_code pool 4 1 _ 0 0 44 300 (lit< tt) (λ e. omega (arith, e)) (far_keeps pool) (far_leaves pool) (lit< tt) refl;
          };
      load_moved =
          record {
            walked = far_walked;
            untrue = λ pool. unmoved far_code pool 4 1 _ 0 1 300 (lit< tt) (far_starts pool) (lit< tt) refl;
          };
    }
