-- A text that is read lies in the bytes.
-- Assumes nothing.
use Rattle.std.specs.Prelude.{Option, Some, None}
use Prim.Native.Nat.{ℕ, ◌-◌}
use native.Mathlib.Omega.{arith}
use mathlib.Core.Path.{◌≡◌, refl}
use mathlib.Core.Bool.{Bool, true, false}
use mathlib.Core.List.{List}
use lib.Dec.{leb}
use lib.ListN.{length}
use borrow.Author.Tests.{leb-true}
use Rattle.basics.specs.Choice.{pick}
use Rattle.number.proofs.Laws.{number-within}
use Rattle.number.specs.Number.{greatest, number_at, number_within, then_number}
use Rattle.items.specs.Text.{text_at, text_within}

pub text-within : (bytes : List ℕ) (at : ℕ) → text_within (length bytes) at (text_at bytes at)
unfolding text_at
text-within bytes at = of (number_at greatest bytes at) (number-within greatest bytes at)
  where
    of :
        (n : Option (ℕ × ℕ)) → number_within greatest (length bytes) at n →
        text_within (length bytes) at
        (then_number n None (λ size start. pick (leb size (length bytes - start)) (Some (start, size)) None))
    of (Some (size, start)) h = by_test (leb size (length bytes - start)) refl
      where
        by_test :
            (t : Bool) → leb size (length bytes - start) ≡ t → text_within (length bytes) at (pick t (Some (start, size)) None)
        by_test true e = (h.0, h.1, omega (arith, leb-true size (length bytes - start) e))
        by_test false e = tt
    of None h = tt
