-- Laws of writing: two texts one after the other are one text, and a loop writes a text byte by byte.
-- Assumes nothing.
use Prim.Native.Nat.{ℕ, zero, suc, ◌+◌, ◌-◌, min, ◌≤◌, ◌<◌}
use native.Mathlib.Nat.{not-suc-le-zero, le_of_suc-le-suc, le_of_eq}
use native.Mathlib.Numerals.{add-one}
use native.Mathlib.Omega.{arith}
use mathlib.Core.Path.{◌≡◌, refl, ◌∙◌, sym, ap}
use mathlib.Core.Bool.{Bool, true, false}
use mathlib.Core.List.{List, [], ◌∷◌, ◌++◌, append-nil}
use lib.Dec.{leb}
use lib.ListN.{length, take, drop, get_or, set, length-append, length-drop, drop_of_length-le}
use lib.Seq.{take_all, take-suc, length-take-le}
use borrow.Author.Tests.{leb-true, leb-false}
use borrow.Rule.Slice.PartMut.{put_mid}
use Rattle.basics.proofs.Outcome.{one_outcome}
use Rattle.text.specs.Writing.{over, splice, most, following, Written}

-- ---- the output keeps its length

pub over_length : (text out : List ℕ) → length (over text out) ≡ length out
unfolding over
over_length [] out = refl
over_length (x ∷ text) [] = refl
over_length (x ∷ text) (y ∷ out) = ap suc (over_length text out)

pub splice_length : (at : ℕ) (text out : List ℕ) → length (splice at text out) ≡ length out
unfolding splice
splice_length zero text out = over_length text out
splice_length (suc at) text [] = refl
splice_length (suc at) text (y ∷ out) = ap suc (splice_length at text out)

-- ---- one text after the other

pub nothing_past : (at : ℕ) (text out : List ℕ) → length out ≤ at → splice at text out ≡ out
unfolding splice over
nothing_past zero [] out past = refl
nothing_past zero (x ∷ text) [] past = refl
nothing_past zero (x ∷ text) (y ∷ out) past = absurd (not-suc-le-zero past)
nothing_past (suc at) text [] past = refl
nothing_past (suc at) text (y ∷ out) past = ap (λ (l : List ℕ). y ∷ l) (nothing_past at text out (le_of_suc-le-suc past))

-- the first text over the start of an output, the second behind it
after_first : (v w out : List ℕ) → splice (length v) w (over v out) ≡ over (v ++ w) out
unfolding over splice
after_first [] w out = refl
after_first (x ∷ v) w [] = refl
after_first (x ∷ v) w (y ∷ out) = ap (λ (l : List ℕ). x ∷ l) (after_first v w out)

-- the last text in its place first, then the one before it
pub last_first : (v w out : List ℕ) → over v (splice (length v) w out) ≡ over (v ++ w) out
unfolding over splice
last_first [] w out = refl
last_first (x ∷ v) w [] = refl
last_first (x ∷ v) w (y ∷ out) = ap (λ (l : List ℕ). x ∷ l) (last_first v w out)

splice_append : (at : ℕ) (v w out : List ℕ) → splice (at + length v) w (splice at v out) ≡ splice at (v ++ w) out
unfolding splice
splice_append zero v w out = let z : 0 + length v ≡ length v = omega arith in rw z (after_first v w out)
splice_append (suc at) v w [] = let s : suc at + length v ≡ suc (at + length v) = omega arith in rw s
splice_append (suc at) v w (y ∷ out) =
    let s : suc at + length v ≡ suc (at + length v) = omega arith in
    rw s (ap (λ (l : List ℕ). y ∷ l) (splice_append at v w out))

-- no output is so long that the greatest place lies in it
behind_first : (at k : ℕ) (v w out : List ℕ) → length out ≤ most → k ≡ min (at + length v) most → splice k w (splice at v out) ≡ splice at (v ++ w) out
behind_first at k v w out short is = by_order (leb (at + length v) most) refl
  where
    by_order : (t : Bool) → leb (at + length v) most ≡ t → splice k w (splice at v out) ≡ splice at (v ++ w) out
    by_order true e =
        let same : k ≡ at + length v = omega (arith, leb-true (at + length v) most e) in
        rw same (splice_append at v w out)
    by_order false e =
        let same : k ≡ most = omega (arith, leb-false (at + length v) most e) in
        rw same
        (nothing_past most w (splice at v out) (rw splice_length short)
        ∙ sym (nothing_past (at + length v) w (splice at v out) (rw splice_length (omega (arith, leb-false (at + length v) most e))))
        ∙ splice_append at v w out)

-- a text, then another from the place that follows it
pub written_then :
    {at k next : ℕ} {v w out middle after : List ℕ} →
    length out ≤ most → Written at v out k middle → Written k w middle next after → Written at (v ++ w) out next after
unfolding following
written_then {at} {k} {next} {v} {w} {out} {middle} {after} short first second =
    record {
      place = rw length-append (omega (arith, first.place, second.place));
      bytes = second.bytes ∙ ap (λ (l : List ℕ). splice k w l) first.bytes ∙ behind_first at k v w out short first.place;
    }

-- one place and one output
pub written_once :
    {at next next' : ℕ} {text out after after' : List ℕ} →
    Written at text out next after → Written at text out next' after' → (next ≡ next') × (after ≡ after')
written_once is was = (one_outcome is.place was.place, one_outcome is.bytes was.bytes)

-- the output keeps its length
pub written_length :
    {at next : ℕ} {text out after : List ℕ} → Written at text out next after → length after ≡ length out
written_length {at} {next} {text} {out} is = ap length is.bytes ∙ splice_length at text out

-- nothing written
pub written_none : {at : ℕ} (out : List ℕ) → at ≤ most → Written at [] out at out
unfolding following splice over
written_none {at} out low = record { place = omega arith; bytes = sym (unchanged at out) }
  where
    unchanged : (k : ℕ) (d : List ℕ) → splice k [] d ≡ d
    unchanged zero d = refl
    unchanged (suc k) [] = refl
    unchanged (suc k) (y ∷ d) = ap (λ (l : List ℕ). y ∷ l) (unchanged k d)

-- ---- byte by byte

-- one byte, stored at a place that the output reaches
pub stored_one : (at x : ℕ) (out : List ℕ) → at < length out → set out at x ≡ splice at (x ∷ []) out
unfolding splice over
stored_one at x [] inside = absurd (not-suc-le-zero inside)
stored_one zero x (y ∷ out) inside = refl
stored_one (suc at) x (y ∷ out) inside = ap (λ (l : List ℕ). y ∷ l) (stored_one at x out (le_of_suc-le-suc inside))

-- the first i bytes of a text are written, and then one more
pub one_byte_more :
    (text out : List ℕ) (i : ℕ) → i < length text → i < length out →
    set (over (take i text) out) i (get_or text i 0) ≡ over (take (i + 1) text) out
one_byte_more text out i inside room =
    let first = take i text in
    let next = get_or text i 0 ∷ [] in
    let before : i ≡ length first = sym (length-take-le i text (omega arith)) in
    stored_one i (get_or text i 0) (over first out) (rw over_length room)
    ∙ ap (λ (k : ℕ). splice k next (over first out)) before
    ∙ after_first first next out
    ∙ ap (λ (l : List ℕ). over l out) (sym (rw add-one (take-suc text i 0 inside)))

-- as many bytes as fit are all that is written
all_that_fits : (text out : List ℕ) → over (take (min (length text) (length out)) text) out ≡ over text out
unfolding over
all_that_fits [] out = let z : min 0 (length out) ≡ 0 = omega arith in rw z
all_that_fits (x ∷ text) [] = let z : min (suc (length text)) 0 ≡ 0 = omega arith in rw z
all_that_fits (x ∷ text) (y ∷ out) =
    let s : min (suc (length text)) (suc (length out)) ≡ suc (min (length text) (length out)) = omega arith in
    rw s (ap (λ (l : List ℕ). x ∷ l) (all_that_fits text out))

-- a loop that wrote all that fits over the start of an output
pub written_by_bytes :
    (text out after : List ℕ) (i n : ℕ) → i ≡ min (length text) (length out) → n ≡ min (length text) most →
    after ≡ over (take i text) out → Written 0 text out n after
unfolding following splice
written_by_bytes text out after i n i-is n-is after_is =
    record {
      place = omega (arith, n-is);
      bytes = after_is ∙ ap (λ (k : ℕ). over (take k text) out) i-is ∙ all_that_fits text out;
    }

-- ---- a lent part

-- what remains of an output from a place on
rest_is : (out : List ℕ) (at : ℕ) → take (length out - at) (drop at out) ≡ drop at out
rest_is out at = take_all (length out - at) (drop at out) (rw length-drop (omega arith))

-- the whole, when what remained is back
home : (out part : List ℕ) (at : ℕ) → put_mid at (length out - at) out part ≡ take at out ++ part
home out part at =
    ap (λ (l : List ℕ). take at out ++ (part ++ l)) (drop_of_length-le (drop at out) (le_of_eq (length-drop at out)))
    ∙ ap (λ (l : List ℕ). take at out ++ l) (append-nil part)

from_a_place : (at : ℕ) (text out : List ℕ) → take at out ++ over text (drop at out) ≡ splice at text out
unfolding splice over
from_a_place zero text out = refl
from_a_place (suc at) [] [] = refl
from_a_place (suc at) (x ∷ text) [] = refl
from_a_place (suc at) text (y ∷ out) = ap (λ (l : List ℕ). y ∷ l) (from_a_place at text out)

-- a renderer that was lent what remains from a place on, nothing where the place is past the end
pub written_from :
    (at from r next : ℕ) (text out part : List ℕ) → from ≡ min at (length out) → next ≡ min (at + r) most →
    Written 0 text (take (length out - from) (drop from out)) r part →
    Written at text out next (put_mid from (length out - from) out part)
unfolding following splice
written_from at from r next text out part from_is next_is is =
    record {
      place = omega (arith, next_is, is.place);
      bytes =
          home out part from
          ∙ ap (λ (l : List ℕ). take from out ++ l) (is.bytes ∙ ap (over text) (rest_is out from))
          ∙ from_a_place from text out
          ∙ by_order (leb at (length out)) refl;
    }
  where
    by_order : (t : Bool) → leb at (length out) ≡ t → splice from text out ≡ splice at text out
    by_order true e =
        let same : from ≡ at = omega (arith, leb-true at (length out) e) in
        rw same
    by_order false e =
        let past = leb-false at (length out) e in
        nothing_past from text out (omega arith) ∙ sym (nothing_past at text out (omega arith))
