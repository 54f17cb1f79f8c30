-- A type that was read and a `)` lie within the text.
-- Assumes nothing.
use Rattle.std.specs.Prelude.{Option, Some, None, Ok, Err}
use Prim.Native.Nat.{ℕ, ◌+◌, ◌-◌, ◌≤◌, ◌<◌}
use native.Mathlib.Omega.{arith}
use mathlib.Core.List.{List, [], ◌∷◌}
use lib.Dec.{eqb, ltb}
use lib.ListN.{length, drop, length-drop}
use Rattle.basics.proofs.Choice.{chosen}
use Rattle.bytesearch.proofs.Search.{Among, among, run_inside}
use Rattle.jletter.specs.Letter.{is_base}
use Rattle.jtype.specs.OneType.{Next, brackets, semicolon_in, unnamed_type, class_type, element, type_in, type_at}

-- a type that was read has a byte, and ends within the text
abbrev pub NextWithin : ℕ → ℕ → Next → Type 0
NextWithin at end (Ok (Some (t, next))) = (at < next) × (next ≤ end)
NextWithin at end (Ok None) = at < end
NextWithin at end (Err r) = Unit {0}

next_earlier : (at place end : ℕ) → at ≤ place → (n : Next) → NextWithin place end n → NextWithin at end n
next_earlier at place end h (Ok (Some (t, next))) w = (omega arith, omega arith)
next_earlier at place end h (Ok None) w = omega arith
next_earlier at place end h (Err r) w = tt

class_within :
    (depth from n end : ℕ) (f : Option ℕ) → from + 1 + n ≤ end → Among f (from + 1) n →
    NextWithin from end (class_type depth (from + 1) f)
unfolding class_type
class_within depth from n end (Some k) few h =
    chosen (NextWithin from end) (eqb k (from + 1)) (Err _) (Ok (Some (_, k + 1))) tt (omega arith, omega arith)
class_within depth from n end None few h = tt

element_within : (depth : ℕ) (rest : List ℕ) (at end : ℕ) → at + length rest ≤ end → NextWithin at end (element depth rest at)
unfolding element unnamed_type
element_within depth [] at end h = tt
element_within depth (x ∷ rest) at end h =
    let In = NextWithin at end in
    let step : (at < at + 1) × (at + 1 ≤ end) = (omega arith, omega arith) in
    chosen In (eqb x 76) _ _
    (class_within depth at (length rest) end (semicolon_in rest (at + 1)) (omega arith) (among 59 rest (at + 1)))
    (chosen In (eqb x 41) _ _ (chosen In (eqb depth 0) (Ok None) (Err _) (omega arith) tt)
    (chosen In (eqb x 86) _ _ (chosen In (ltb 0 depth) (Err _) (Ok (Some (_, at + 1))) tt step)
    (chosen In (is_base x) (Ok (Some (_, at + 1))) (Err _) step tt)))

next_in_text : (at size : ℕ) (n : Next) → NextWithin at (at + (size - at)) n → NextWithin at size n
next_in_text at size (Ok (Some (t, next))) w = (omega arith, omega arith)
next_in_text at size (Ok None) w = omega arith
next_in_text at size (Err r) w = tt

type_in_within : (rest : List ℕ) (at : ℕ) → NextWithin at (at + length rest) (type_in rest at)
unfolding type_in
type_in_within rest at =
    let depth = brackets rest in
    let end = at + length rest in
    let behind = element depth (drop depth rest) (at + depth) in
    chosen (NextWithin at end) (ltb 255 depth) (Err _) behind tt
    (next_earlier at (at + depth) end (omega arith) behind
    (element_within depth (drop depth rest) (at + depth) end
    (omega (arith, length-drop depth rest, run_inside 91 rest))))

pub type_within : (text : List ℕ) (at : ℕ) → NextWithin at (length text) (type_at text at)
unfolding type_at
type_within text at =
    next_in_text at (length text) (type_at text at)
    (rw (length-drop at text) at (type_in_within (drop at text) at))
