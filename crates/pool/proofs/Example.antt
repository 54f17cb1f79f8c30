-- The table at work: a pool with a long and a Utf8, read whole; the long as the last number; and the third entry cut.
-- Assumes nothing.
use Prim.Native.Nat.{ℕ}
use mathlib.Core.Bool.{false}
use mathlib.Core.List.{List, [], ◌∷◌}
use mathlib.Core.Path.{◌≡◌, refl}
use Rattle.utf8.specs.Turning.{is_modified, right_by, size_of, size_by}
use Rattle.format.specs.Format.{and_then, number_at, right, wrong, read_by}
use Rattle.classformat.specs.ClassFile.{entry_format, pool_format}
use Rattle.classformat.specs.declared.Entry.TheVariants.{Text, Other, Nothing}
use Rattle.pool.specs.Pool.{tagged_format, places_by, places_in, placed}

-- ten bytes before the pool, the long 1, and the text "A"
abbrev sample : List ℕ
sample = 0 ∷ 0 ∷ 0 ∷ 0 ∷ 0 ∷ 0 ∷ 0 ∷ 0 ∷ 0 ∷ 0 ∷ 5 ∷ 0 ∷ 0 ∷ 0 ∷ 0 ∷ 0 ∷ 0 ∷ 0 ∷ 1 ∷ 1 ∷ 0 ∷ 1 ∷ 65 ∷ []

pub sample_is_right : read_by (pool_format 23 3 false) sample 10 ≡ right (Other ∷ Nothing ∷ Text 22 1 ∷ []) 23
unfolding read_by and_then number_at pool_format entry_format is_modified right_by size_of size_by
sample_is_right = refl

pub sample_places : placed 5 (places_in sample 4) ≡ 0 ∷ 10 ∷ 0 ∷ 19 ∷ 0 ∷ []
unfolding placed places_in places_by tagged_format entry_format read_by number_at is_modified right_by size_of size_by
sample_places = refl

pub long_is_last : read_by (pool_format 23 1 false) sample 10 ≡ wrong 10
unfolding read_by and_then number_at pool_format entry_format
long_is_last = refl

pub third_is_cut : read_by (pool_format 23 4 false) sample 10 ≡ wrong 23
unfolding read_by and_then number_at pool_format entry_format is_modified right_by size_of size_by
third_is_cut = refl

-- what stands before the cut is kept, as far as there is room
pub cut_places : placed 3 (places_in sample 5) ≡ 0 ∷ 10 ∷ 0 ∷ []
unfolding placed places_in places_by tagged_format entry_format read_by number_at is_modified right_by size_of size_by
cut_places = refl
