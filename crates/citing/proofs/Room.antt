-- A text that is written into a room which holds it stands there, and its parts one behind the other.
-- Assumes nothing.
use Prim.Native.Nat.{ℕ, ◌≤◌, ◌<◌}
use native.Mathlib.Omega.{arith}
use mathlib.Core.Path.{◌≡◌, ◌∙◌, ap}
use mathlib.Core.List.{List, ◌++◌}
use lib.ListN.{length, take, drop}
use lib.Seq.{take-append_seam, drop-append_seam}
use Rattle.text.specs.Writing.{splice, most, following, Written}
use Rattle.laying.proofs.Over.{over_holds}

-- the text, and behind it what the room held there
pub stands : {next : ℕ} {text room after : List ℕ} → Written 0 text room next after → length text ≤ length room → after ≡ text ++ drop (length text) room
unfolding splice
stands {next} {text} {room} is fits = is.bytes ∙ over_holds text room fits

-- the place after a text that a number counts is its length
pub ends : {next : ℕ} {text room after : List ℕ} → Written 0 text room next after → length text ≤ most → next ≡ length text
unfolding following
ends is short = omega (arith, is.place, short)

-- a text that was measured by writing it
pub measured : {next n : ℕ} {text room after : List ℕ} → Written 0 text room next after → next ≤ n → n < most → length text ≤ n
unfolding following
measured is few less = omega (arith, is.place, few, less)

-- ---- parts

pub first_part : (u v : List ℕ) → take (length u) (drop 0 (u ++ v)) ≡ u
first_part u v = take-append_seam u v

pub next_part : (u v w : List ℕ) → take (length v) (drop (length u) (u ++ (v ++ w))) ≡ v
next_part u v w = ap (take (length v)) (drop-append_seam u (v ++ w)) ∙ take-append_seam v w
