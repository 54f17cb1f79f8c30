-- The bytes of the worked items: antt computes both sides of each.
-- Assumes nothing.
use mathlib.Core.Path.{refl}
use Rattle.number.specs.Number.{groups_of, number_bytes}
use Rattle.items.specs.Text.{text_bytes}
use Rattle.laying.specs.Worked.{Worked}

pub worked : Worked
unfolding number_bytes groups_of text_bytes
worked =
    record {
      zero = refl;
      one_group = refl;
      two_groups = refl;
      low_first = refl;
      still_two = refl;
      three_groups = refl;
      greatest = refl;
      no_text = refl;
      text = refl;
    }
