-- What a method returns, once its parameters were looked at.
-- Assumes nothing.
use Rattle.std.specs.Prelude.{Option, Some, None}
use Prim.Native.Nat.{ℕ}
use mathlib.Core.Path.{◌≡◌, ap}
use mathlib.Core.List.{List}
use Rattle.descriptor.specs.Readers.{parameters, end_of, closing, slots_behind, return_slots}
use Rattle.descriptor.specs.declared.Params.{Params}

module _ (text : List ℕ) where
  behind : (p : Option Params) → parameters text ≡ p → return_slots text ≡ slots_behind text (end_of p)
  unfolding return_slots closing
  behind p e = ap (λ (q : Option Params). slots_behind text (end_of q)) e

  -- it stands behind their end
  pub behind_end : (p : Params) → parameters text ≡ Some p → return_slots text ≡ slots_behind text (Some p.end)
  behind_end p e = behind (Some p) e

  -- those that can't be read have none
  pub behind_none : parameters text ≡ None → return_slots text ≡ None
  unfolding slots_behind
  behind_none e = behind None e
