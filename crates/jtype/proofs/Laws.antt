-- How the definitions of a type go on by one byte, and where a type that was read ends.
-- Assumes nothing.
use Rattle.std.specs.Prelude.{None, Ok, Err}
use Prim.Native.Nat.{ℕ, ◌+◌, ◌-◌, ◌≤◌, ◌<◌}
use native.Mathlib.Numerals.{add-one}
use native.Mathlib.Omega.{arith}
use mathlib.Core.Path.{◌≡◌}
use mathlib.Core.List.{List}
use lib.Dec.{eqb, ltb}
use lib.ListN.{length, get_or, drop, drop_of_length-le}
use lib.Seq.{drop-cons, drop-drop}
use Rattle.basics.specs.Choice.{pick}
use Rattle.jtype.specs.OneType.{brackets, semicolon_from, unnamed_type, class_type, element, type_in}
use Rattle.jtype.specs.OneType.{type_at}
use Rattle.bytesearch.specs.Search.{first_from}
use Rattle.jletter.specs.Letter.{is_base}
use Rattle.refusal.specs.declared.Refusal.TheVariants.{UnexpectedEnd, TooManyDimensions, CloseAfterBracket, ArrayOfVoid}
use Rattle.refusal.specs.declared.Refusal.TheVariants.{Unrecognised}

-- what stands behind brackets
pub element_at_end : (text : List ℕ) (depth at : ℕ) → length text ≤ at → element depth (drop at text) at ≡ Err UnexpectedEnd
unfolding element
element_at_end text depth at past = rw (drop_of_length-le text past)

pub element_next :
    (text : List ℕ) (depth at : ℕ) → at < length text →
    element depth (drop at text) at ≡
    pick (eqb (get_or text at 0) 76) (class_type depth (at + 1) (semicolon_from text (at + 1)))
    (pick (eqb (get_or text at 0) 41) (pick (eqb depth 0) (Ok None) (Err CloseAfterBracket))
    (pick (eqb (get_or text at 0) 86) (pick (ltb 0 depth) (Err ArrayOfVoid) (unnamed_type (get_or text at 0) depth (at + 1)))
    (pick (is_base (get_or text at 0)) (unnamed_type (get_or text at 0) depth (at + 1)) (Err Unrecognised))))
unfolding element first_from
element_next text depth at inside = rw (drop-cons text at 0 inside, add-one at)

-- a type, by the place behind its brackets
pub type_behind :
    (text : List ℕ) (at place : ℕ) → place ≡ at + brackets (drop at text) →
    type_at text at ≡ pick (ltb 255 (place - at)) (Err TooManyDimensions) (element (place - at) (drop place text) place)
unfolding type_at type_in
type_behind text at place e =
    let depth : brackets (drop at text) ≡ place - at = omega arith in
    let same : at + (place - at) ≡ place = omega arith in
    rw (depth, drop-drop, same)
