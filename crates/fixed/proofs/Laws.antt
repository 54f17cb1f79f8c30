-- There is one table of fixed lengths.
-- Assumes nothing.
use Prim.Native.Nat.{ℕ}
use native.Mathlib.Omega.{arith}
use mathlib.Core.Path.{◌≡◌, ◌∙◌, sym}
use mathlib.Core.List.{List}
use lib.Seq.{ext_get_or}
use Rattle.fixed.specs.Fixed.{FixedLengths}

pub fixed_lengths_once : (one another : List ℕ) → FixedLengths one → FixedLengths another → one ≡ another
fixed_lengths_once one another is was =
    ext_get_or 0 one another (is.sized ∙ sym was.sized)
    (λ op below. is.entries op (omega (arith, is.sized)) ∙ sym (was.entries op (omega (arith, is.sized))))
