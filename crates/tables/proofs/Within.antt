-- A run that starts in the bytes ends in them, whatever its layout.
-- Assumes nothing.
use Rattle.std.specs.Prelude.{Option, Some, None, Result, Ok, Err}
use Prim.Native.Nat.{ℕ, ◌+◌, ◌≤◌}
use native.Mathlib.Omega.{arith}
use mathlib.Core.Bool.{Bool, true, false}
use mathlib.Core.List.{List}
use lib.Dec.{ltb}
use lib.ListN.{length}
use Rattle.basics.specs.Choice.{pick}
use Rattle.number.specs.Number.{greatest, number_at, number_within, then_number}
use Rattle.items.specs.Text.{text_at, then_text, text_within}
use Rattle.number.proofs.Laws.{number-within}
use Rattle.items.proofs.Laws.{text-within}
use Rattle.tables.specs.Layout.{Layout, number, sized, may_end, ended, run_by, run_within}

later_within : (size at next : ℕ) → at ≤ next → next ≤ size → (r : Result ℕ ℕ) → run_within size next r → run_within size at r
later_within size at next later inside (Ok end) h = (omega arith, λ start. h.1 inside)
later_within size at next later inside (Err place) h = tt

pub run-within : (layout : Layout) (bytes : List ℕ) (at : ℕ) → run_within (length bytes) at (run_by layout bytes at)
unfolding run_by
run-within ended bytes at = (omega arith, λ inside. inside)
run-within (number right following) bytes at =
    of (number_at greatest bytes at) (number-within greatest bytes at) (λ v next. run-within (following v) bytes next)
  where
    of :
        (n : Option (ℕ × ℕ)) → number_within greatest (length bytes) at n →
        ((v next : ℕ) → run_within (length bytes) next (run_by (following v) bytes next)) →
        run_within (length bytes) at (then_number n (Err at) (λ v next. pick (right v) (run_by (following v) bytes next) (Err at)))
    of (Some (v, next)) h rest = by_test (right v)
      where
        by_test : (t : Bool) → run_within (length bytes) at (pick t (run_by (following v) bytes next) (Err at))
        by_test true = later_within (length bytes) at next (omega arith) h.2 (run_by (following v) bytes next) (rest v next)
        by_test false = tt
    of None h rest = tt
run-within (sized following) bytes at =
    of (text_at bytes at) (text-within bytes at) (λ size next. run-within (following size) bytes next)
  where
    of :
        (t : Option (ℕ × ℕ)) → text_within (length bytes) at t →
        ((size next : ℕ) → run_within (length bytes) next (run_by (following size) bytes next)) →
        run_within (length bytes) at (then_text t (Err at) (λ start size. run_by (following size) bytes (start + size)))
    of (Some (start, size)) h rest =
        later_within (length bytes) at (start + size) (omega arith) h.2 (run_by (following size) bytes (start + size)) (rest size (start + size))
    of None h rest = tt
run-within (may_end following) bytes at = by_test (ltb at (length bytes)) (run-within following bytes at)
  where
    by_test :
        (t : Bool) → run_within (length bytes) at (run_by following bytes at) →
        run_within (length bytes) at (pick t (run_by following bytes at) (Ok at))
    by_test true h = h
    by_test false h = (omega arith, λ inside. inside)
