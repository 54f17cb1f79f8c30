-- A descriptor that turning shortens, `(L` c0 80 `;J)V`: the index where its parameters end moves, the slots do not.
-- Assumes nothing.
use Rattle.std.specs.Prelude.{Some}
use Prim.Native.Nat.{ℕ}
use mathlib.Core.Bool.{true}
use mathlib.Core.List.{List, ◌∷◌, ◌++◌}
use mathlib.Core.Path.{◌≡◌, refl}
use Rattle.basics.specs.Ascii.{ascii}
use Rattle.bytesearch.specs.Search.{first_in, first_from, run}
use Rattle.fieldtype.specs.Types.{type_behind, field_type_at, type_slots, types_from, types_at, types_of}
use Rattle.descriptor.specs.Readers.{slots_of, judged, parameters, closing, slots_behind, return_slots}
use Rattle.utf8.specs.Turning.{size_by, size_of, right_by, is_modified, turn_by, turn_of, turned_by, turned}

abbrev pub text : List ℕ
text = ascii "(L" ++ (192 ∷ 128 ∷ ascii ";J)V")

pub judged_right : is_modified text ≡ true
unfolding size_by size_of right_by is_modified
judged_right = refl

pub as_it_is : (parameters text ≡ Some (record { slots = 3; end = 6 })) × (return_slots text ≡ Some 0)
unfolding first_in first_from run type_behind field_type_at type_slots types_from types_at types_of slots_of judged parameters closing slots_behind return_slots
as_it_is = (refl, refl)

pub as_turned : (parameters (turned text) ≡ Some (record { slots = 3; end = 5 })) × (return_slots (turned text) ≡ Some 0)
unfolding first_in first_from run type_behind field_type_at type_slots types_from types_at types_of slots_of judged parameters closing slots_behind return_slots turn_by turn_of turned_by turned
as_turned = (refl, refl)
