-- What follows a part of a list, and parts that are written one behind the other.
-- Assumes nothing.
use Prim.Native.Nat.{ℕ, ◌+◌, ◌≤◌}
use native.Mathlib.Omega.{arith}
use mathlib.Core.Path.{◌≡◌, refl, ◌∙◌, sym, ap}
use mathlib.Core.List.{List, ◌++◌, append_assoc}
use lib.ListN.{length, take, drop, length-append}
use lib.Seq.{take_at, drop_at, length-take-le, drop-append-add, drop-drop}
use Rattle.basics.specs.Parts.{overlaid}

-- what follows u in a text that has u from a place on
pub rest_of : (text u v : List ℕ) (at : ℕ) → drop at text ≡ u ++ v → drop (at + length u) text ≡ v
rest_of text u v at e = sym (drop-drop (length u) at text) ∙ ap (drop (length u)) e ∙ drop_at u v (length u) refl

-- two runs written one behind the other are one run
pub overlaid_more :
    (u v d : List ℕ) (k : ℕ) → k + length u ≤ length d → overlaid (k + length u) v (overlaid k u d) ≡ overlaid k (u ++ v) d
unfolding overlaid
overlaid_more u v d k h =
    let front = take k d in
    let behind = drop (k + length u) d in
    let size : length (front ++ u) ≡ k + length u =
    length-append front u ∙ ap (λ (n : ℕ). n + length u) (length-take-le k d (omega arith)) in
    let one : front ++ (u ++ behind) ≡ (front ++ u) ++ behind = sym (append_assoc front u behind) in
    let kept : take (k + length u) (front ++ (u ++ behind)) ≡ front ++ u =
    ap (take (k + length u)) one ∙ take_at (front ++ u) behind (k + length u) size in
    let far : k + length u + length v ≡ k + length (u ++ v) = omega (arith, length-append u v) in
    let left : drop (k + length u + length v) (front ++ (u ++ behind)) ≡ drop (k + length (u ++ v)) d =
    ap (λ (n : ℕ). drop (n + length v) (front ++ (u ++ behind))) (sym size)
    ∙ ap (drop (length (front ++ u) + length v)) one ∙ drop-append-add (front ++ u) behind (length v)
    ∙ drop-drop (length v) (k + length u) d ∙ ap (λ (n : ℕ). drop n d) far in
    rw (kept, left, append_assoc front u (v ++ drop (k + length (u ++ v)) d), append_assoc u v (drop (k + length (u ++ v)) d))
