-- The worked walks, by computing them.
-- Assumes nothing.
use mathlib.Core.Path.{refl}
use Rattle.basics.specs.Bytes.{u16_at}
use Rattle.jvms.specs.Format.{format_of}
use Rattle.fixed.specs.Fixed.{fixed_length}
use Rattle.effects.specs.Rows.{row_of, added_row, widened_row, full_row_of}
use Rattle.walk.specs.Walk.{step, walk_from, walk}
use Rattle.walk.specs.Worked.{Worked}

pub worked : Worked
unfolding row_of added_row widened_row full_row_of format_of fixed_length u16_at step walk_from walk
worked =
    record {
      loads = refl;
      others = refl;
      results = refl;
      carries = refl;
      unmodelled = refl;
      passing = refl;
      shifts = refl;
      turns = refl;
      stores_in = refl;
      dup_x1 = refl;
      dup_x2 = refl;
      dup2_x1 = refl;
      dup2_x2 = refl;
      makes_arrays = refl;
      no_dimension = refl;
      cut_dimension = refl;
      too_few_slots = refl;
      far_loads = refl;
      farthest = refl;
      far_others = refl;
      far_stores = refl;
      far_increments = refl;
      far_returns = refl;
      far_nothing = refl;
      far_cut = refl;
      far_unread = refl;
      far_unmodelled = refl;
      dynamic = refl;
    }
