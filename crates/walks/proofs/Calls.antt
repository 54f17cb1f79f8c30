-- A call whose parameters have plain names: the two places of its return are one, or none is asked for.
-- Assumes nothing.
use Rattle.std.specs.Prelude.{Option, Some, None}
use mathlib.Core.Path.{◌≡◌, refl, ap}
use Rattle.descriptor.specs.Readers.{parameters, return_slots}
use Rattle.descriptor.specs.declared.Params.{Params}
use Rattle.descriptors.specs.Place.{first_return}
use Rattle.descriptors.proofs.Place.{return_place}
use Rattle.walk.specs.Walk.{called}
use Rattle.walks.specs.Calls.{SameCalls}

pub same_calls : SameCalls
same_calls takes d plain = by_list (parameters d) refl
  where
    by_list : (p : Option Params) → parameters d ≡ p → called takes p (return_slots d) ≡ called takes p (first_return d)
    by_list (Some p) read =
        ap (called takes (Some p)) (return_place.same_if_plain d p read (plain p read))
    by_list None read = refl
