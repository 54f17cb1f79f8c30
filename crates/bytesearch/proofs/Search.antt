-- The searches, step by step, and where what is found lies.
-- Assumes nothing.
use Rattle.std.specs.Prelude.{Option, Some, None}
use Prim.Native.Nat.{ℕ, suc, ◌+◌, ◌≤◌, ◌<◌}
use native.Mathlib.Numerals.{add-one}
use native.Mathlib.Omega.{arith}
use mathlib.Core.Path.{◌≡◌, ◌∙◌, sym, ap, subst}
use mathlib.Core.Bool.{Bool, true, false}
use mathlib.Core.List.{List, [], ◌∷◌}
use lib.Dec.{eqb}
use lib.ListN.{length, drop, length-drop, drop_of_length-le}
use lib.Seq.{drop-cons}
use borrow.Author.Tests.{eq-eqb, ne_eqb}
use Rattle.basics.specs.Bytes.{byte_at}
use Rattle.basics.specs.Choice.{pick}
use Rattle.basics.proofs.Choice.{chosen}
use Rattle.bytesearch.specs.Search.{first_in, first_from, found_inside, run}

-- what remains of a text from an index in it
pub remains : (text : List ℕ) (i : ℕ) → i < length text → drop i text ≡ byte_at text i ∷ drop (i + 1) text
remains text i inside = drop-cons text i 0 inside ∙ ap (λ (n : ℕ). byte_at text i ∷ drop n text) (sym (add-one i))

module _ (text : List ℕ) (i : ℕ) where
  pub found_here : (byte : ℕ) → i < length text → byte_at text i ≡ byte → Some i ≡ first_from byte text i
  unfolding first_from first_in
  found_here byte inside e = rw (remains text i inside, eq-eqb (byte_at text i) byte e)

  pub found_later : (byte : ℕ) → i < length text → (byte_at text i ≡ byte → ⊥) → first_from byte text (i + 1) ≡ first_from byte text i
  unfolding first_from first_in
  found_later byte inside other = rw (remains text i inside, ne_eqb (byte_at text i) byte other)

  pub found_nowhere : (byte : ℕ) → length text ≤ i → None ≡ first_from byte text i
  unfolding first_from first_in
  found_nowhere byte past = rw (drop_of_length-le text past)

  -- a run goes on, or is over
  pub run_on : (byte : ℕ) → i < length text → byte_at text i ≡ byte → i + 1 + run byte (drop (i + 1) text) ≡ i + run byte (drop i text)
  unfolding run
  run_on byte inside e = rw (remains text i inside, eq-eqb (byte_at text i) byte e) (omega arith)

  pub run_over : (byte : ℕ) → i < length text → (byte_at text i ≡ byte → ⊥) → i ≡ i + run byte (drop i text)
  unfolding run
  run_over byte inside other = rw (remains text i inside, ne_eqb (byte_at text i) byte other) (omega arith)

  pub run_past : (byte : ℕ) → length text ≤ i → i ≡ i + run byte (drop i text)
  unfolding run
  run_past byte past = rw (drop_of_length-le text past) (omega arith)

-- a place among a list's bytes, of which the first stands at an index
abbrev pub Among : Option ℕ → ℕ → ℕ → Type 0
Among (Some i) at n = (at ≤ i) × (i < at + n)
Among None at n = Unit

pub among : (byte : ℕ) (xs : List ℕ) (at : ℕ) → Among (first_in byte xs at) at (length xs)
unfolding first_in
among byte [] at = tt
among byte (x ∷ xs) at = by_test (eqb x byte) (widen (first_in byte xs (at + 1)) (among byte xs (at + 1)))
  where
    widen : (found : Option ℕ) → Among found (at + 1) (length xs) → Among found at (length (x ∷ xs))
    widen (Some i) is = (omega (arith, is.0), omega (arith, is.1))
    widen None is = tt

    by_test : (t : Bool) → Among (first_in byte xs (at + 1)) at (length (x ∷ xs)) → Among (pick t (Some at) (first_in byte xs (at + 1))) at (length (x ∷ xs))
    by_test true rest = (omega arith, omega arith)
    by_test false rest = rest

pub found-inside : (byte : ℕ) (text : List ℕ) (from : ℕ) → found_inside (first_from byte text from) text from
unfolding first_from
found-inside byte text from = place (first_in byte (drop from text) from) (among byte (drop from text) from)
  where
    place : (found : Option ℕ) → Among found from (length (drop from text)) → found_inside found text from
    place (Some i) is = (is.0, omega (arith, is.0, is.1, length-drop from text))
    place None is = tt

pub place_inside :
    (byte : ℕ) (text : List ℕ) (from at : ℕ) → Some at ≡ first_from byte text from → (from ≤ at) × (at < length text)
place_inside byte text from at e =
    subst (λ (found : Option ℕ). found_inside found text from) (sym e) (found-inside byte text from)

-- a run is no longer than the list
pub run_inside : (byte : ℕ) (xs : List ℕ) → run byte xs ≤ length xs
unfolding run
run_inside byte [] = omega arith
run_inside byte (x ∷ xs) =
    let more = run_inside byte xs in
    chosen (λ (n : ℕ). n ≤ suc (length xs)) (eqb x byte) (suc (run byte xs)) 0 (omega arith) (omega arith)
