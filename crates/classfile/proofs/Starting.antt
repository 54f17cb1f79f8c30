-- The items before the pool, and the table that the start of a file leaves.
-- Assumes nothing.
use Rattle.std.specs.Prelude.{Some, None}
use Prim.Native.Nat.{ℕ, ◌≤◌, ◌<◌}
use native.Mathlib.Omega.{arith}
use mathlib.Core.Path.{◌≡◌, refl, ◌∙◌, sym, ap}
use mathlib.Core.Bool.{Bool, true, false}
use mathlib.Core.List.{List}
use lib.Dec.{leb, eqb}
use lib.ListN.{length}
use borrow.Author.Tests.{le-leb, lt-leb, eq-eqb, ne_eqb, lt-ltb, le-ltb}
use Rattle.basics.specs.Bytes.{u16_at, u32_at}
use Rattle.basics.specs.Choice.{both}
use Rattle.format.specs.Format.{number_at}
use Rattle.format.specs.Items.{item_at}
use Rattle.format.proofs.Items.{two_bytes, four_bytes, item_is, item_cut}
use Rattle.pool.specs.Pool.{places_in, placed}
use Rattle.classfile.specs.Class.{start_table}

-- ---- the items

module _ (file : List ℕ) {magic minor_at : ℕ} (first : item_at 4 (length file) file 0 ≡ Some (magic, minor_at)) where
  pub magic_is : u32_at file 0 ≡ magic
  magic_is = sym (four_bytes file 0) ∙ (item_is 4 (length file) file 0 first).1

  minor-at : minor_at ≡ 4
  minor-at = sym (item_is 4 (length file) file 0 first).2

  pub minor_short : item_at 2 (length file) file minor_at ≡ None → length file < 10
  minor_short cut = omega (arith, minor-at, item_cut 2 (length file) file minor_at cut)

  module _ {minor major_at : ℕ} (second : item_at 2 (length file) file minor_at ≡ Some (minor, major_at)) where
    major-at : major_at ≡ 6
    major-at = omega (arith, minor-at, (item_is 2 (length file) file minor_at second).2)

    pub major_short : item_at 2 (length file) file major_at ≡ None → length file < 10
    major_short cut = omega (arith, major-at, item_cut 2 (length file) file major_at cut)

    module _ {major count_at : ℕ} (third : item_at 2 (length file) file major_at ≡ Some (major, count_at)) where
      count-at : count_at ≡ 8
      count-at = omega (arith, major-at, (item_is 2 (length file) file major_at third).2)

      pub count_short : item_at 2 (length file) file count_at ≡ None → length file < 10
      count_short cut = omega (arith, count-at, item_cut 2 (length file) file count_at cut)

      module _ {count from : ℕ} (fourth : item_at 2 (length file) file count_at ≡ Some (count, from)) where
        pub pool_at : from ≡ 10
        pool_at = omega (arith, count-at, (item_is 2 (length file) file count_at fourth).2)

        pub long : 10 ≤ length file
        long = omega (arith, count-at, (item_is 2 (length file) file count_at fourth).0)

        pub count_is : u16_at file 8 ≡ count
        count_is =
            sym (two_bytes file 8) ∙ ap (λ (place : ℕ). number_at 2 file place) (sym count-at) ∙ (item_is 2 (length file) file count_at fourth).1

-- ---- the table

both_off : (t : Bool) → both t false ≡ false
both_off true = refl
both_off false = refl

module _ (file before : List ℕ) where
  pub left_short : length file < 10 → before ≡ start_table file before
  unfolding start_table
  left_short short = rw (lt-leb 10 (length file) short)

  pub left_strange : (u32_at file 0 ≡ 0xcafebabe → ⊥) → before ≡ start_table file before
  unfolding start_table
  left_strange other = rw (ne_eqb (u32_at file 0) 0xcafebabe other, both_off (leb 10 (length file)))

  pub left_empty : u16_at file 8 ≤ 0 → before ≡ start_table file before
  unfolding start_table
  left_empty none =
      rw (le-ltb 0 (u16_at file 8) none, both_off (eqb (u32_at file 0) 0xcafebabe), both_off (leb 10 (length file)))

  pub filled :
      10 ≤ length file → u32_at file 0 ≡ 0xcafebabe → 0 < u16_at file 8 →
      placed (length before) (places_in file (u16_at file 8)) ≡ start_table file before
  unfolding start_table
  filled fits is some = rw (le-leb 10 (length file) fits, eq-eqb (u32_at file 0) 0xcafebabe is, lt-ltb 0 (u16_at file 8) some)
