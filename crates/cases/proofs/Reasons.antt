-- The first wrong item is cut by the end, breaks its own rule, or is in excess.
-- Rests on: the bytes of a number (Groups), what stands (Reading).
-- Assumes nothing.
use Prim.Native.Nat.{ℕ, zero, suc, ◌+◌, ◌-◌, ◌≤◌, ◌<◌}
use native.Mathlib.Omega.{arith}
use native.Mathlib.Nat.{not-suc-le-zero}
use mathlib.Core.Path.{◌≡◌, refl, ◌∙◌, sym, ap, subst}
use mathlib.Core.Bool.{Bool, true, false}
use mathlib.Core.Logic.{⊎_elim, ◌⊎◌, inl, inr}
use mathlib.Core.List.{List, [], ◌∷◌, ◌++◌}
use lib.Dec.{T, ltb, leb}
use lib.ListN.{length, get_or, take, drop, length-take, length-drop}
use lib.Seq.{get_or-drop}
use borrow.Author.Tests.{ltb-true, ltb-false, leb-true, leb-false}
use Rattle.basics.specs.Bytes.{AreBytes}
use Rattle.number.specs.Number.{greatest, number_bytes}
use Rattle.items.specs.Text.{text_bytes}
use Rattle.tables.specs.Layout.{Layout, number, sized, may_end, ended, any}
use Rattle.cases.specs.FirstWrong.{NothingRight}
use Rattle.cases.specs.Item.{Groups, last, before}
use Rattle.cases.specs.Reasons.{WrongNumber, cut, long, large, refused, WrongText, size, short, Reason, WrongForAReason}
use Rattle.cases.specs.Standing.{Stands}
use Rattle.cases.proofs.Groups.{only}
use Rattle.cases.proofs.Reading.{both_stand, part_stands, bytes_behind}

-- a run of bytes starts with groups, or each of its bytes says that another follows
data Begins (run : List ℕ) : Type 0 where
  groups : {v : ℕ} {own : List ℕ} (rest : List ℕ) → Groups v own → run ≡ own ++ rest → Begins run
  endless : ((i : ℕ) → i < length run → 128 ≤ get_or run i 0) → Begins run

begins : (run : List ℕ) → AreBytes run → Begins run
begins [] are = endless (λ i below. absurd (not-suc-le-zero below))
begins (group ∷ rest) are = by_test (ltb group 128) refl (begins rest (λ i. are (suc i)))
  where
    byte : group < 256
    byte = are 0

    onward : 128 ≤ group → Begins rest → Begins (group ∷ rest)
    onward above (groups {v = v} {own = own} others inner e) =
        let same : 128 + (group - 128) ≡ group = omega arith in
        groups others (before {group = group - 128} (omega (arith, byte)) inner)
        (rw same (ap (λ (r : List ℕ). group ∷ r) e))
    onward above (endless each) = endless go
      where
        go : (i : ℕ) → i < suc (length rest) → 128 ≤ get_or (group ∷ rest) i 0
        go zero below = above
        go (suc i) below = each i (omega arith)

    by_test : (t : Bool) → ltb group 128 ≡ t → Begins rest → Begins (group ∷ rest)
    by_test true e inner = groups rest (last (ltb-true group 128 e)) refl
    by_test false e inner = onward (ltb-false group 128 e) inner

-- a number that is right where it is due
record RightNumber (right : ℕ → Bool) (bytes : List ℕ) (at : ℕ) : Type 0 where
  v : ℕ
  fits : v ≤ greatest
  passes : T (right v)
  stands : Stands bytes at (number_bytes v)

-- at each place a number is right or wrong
right_or_wrong :
    (right : ℕ → Bool) (bytes : List ℕ) (at : ℕ) → AreBytes bytes → RightNumber right bytes at ⊎ WrongNumber right bytes at
right_or_wrong right bytes at are = of (begins (drop at bytes) (bytes_behind bytes at are))
  where
    of : Begins (drop at bytes) → RightNumber right bytes at ⊎ WrongNumber right bytes at
    of (endless each) =
        inr
        (cut
        (λ i from below.
        let same : at + (i - at) ≡ i = omega arith in
        let inside : i - at < length (drop at bytes) = omega (arith, length-drop at bytes) in
        subst (λ (n : ℕ). 128 ≤ n) (get_or-drop at bytes (i - at) 0 ∙ ap (λ (k : ℕ). get_or bytes k 0) same) (each (i - at) inside)))
    of (groups {v = v} {own = own} rest inner e) = by_length (leb (length own) (length (number_bytes v))) refl
      where
        stands : Stands bytes at own
        stands = record { rest = rest; is = e }

        by_rule :
            own ≡ number_bytes v → v ≤ greatest → (t : Bool) → right v ≡ t → RightNumber right bytes at ⊎ WrongNumber right bytes at
        by_rule is fits true f =
            inl
            (record {
              v = v;
              fits = fits;
              passes = subst T (sym f) tt;
              stands = subst (λ (w : List ℕ). Stands bytes at w) is stands;
            })
        by_rule is fits false f = inr (refused inner stands f)

        by_size :
            own ≡ number_bytes v → (t : Bool) → leb v greatest ≡ t → RightNumber right bytes at ⊎ WrongNumber right bytes at
        by_size is true f = by_rule is (leb-true v greatest f) (right v) refl
        by_size is false f = inr (large inner stands (leb-false v greatest f))

        by_length :
            (t : Bool) → leb (length own) (length (number_bytes v)) ≡ t → RightNumber right bytes at ⊎ WrongNumber right bytes at
        by_length true f = by_size (only inner (leb-true (length own) (length (number_bytes v)) f)) (leb v greatest) refl
        by_length false f = inr (long inner stands (leb-false (length own) (length (number_bytes v)) f))

-- a text whose length number is right, and that is not right itself
too_short :
    (bytes : List ℕ) (at n : ℕ) → n ≤ greatest → Stands bytes at (number_bytes n) →
    ((t : List ℕ) → length t ≤ greatest → Stands bytes at (text_bytes t) → ⊥) → WrongText bytes at
unfolding text_bytes
too_short bytes at n fits stands nothing = by_room (leb (at + length (number_bytes n) + n) (length bytes)) refl
  where
    by_room : (t : Bool) → leb (at + length (number_bytes n) + n) (length bytes) ≡ t → WrongText bytes at
    by_room true f =
        let start = at + length (number_bytes n) in
        let own = take n (drop start bytes) in
        let room = leb-true (start + n) (length bytes) f in
        let sized : length own ≡ n = omega (arith, room, length-take n (drop start bytes), length-drop start bytes) in
        let whole = both_stand bytes at (number_bytes n) own stands (part_stands bytes start n) in
        absurd
        (nothing own (omega (arith, sized)) (subst (λ (k : ℕ). Stands bytes at (number_bytes k ++ own)) (sym sized) whole))
    by_room false f = short n stands (leb-false (at + length (number_bytes n) + n) (length bytes) f)

reason : (bytes : List ℕ) → AreBytes bytes → (due : Layout) (at : ℕ) → NothingRight bytes due at → Reason bytes due at
reason bytes are (number right following) at nothing =
    ⊎_elim
    (λ (n : RightNumber right bytes at). absurd (nothing n.v n.fits n.passes n.stands))
    (λ (w : WrongNumber right bytes at). w)
    (right_or_wrong right bytes at are)
reason bytes are (sized following) at nothing =
    ⊎_elim
    (λ (n : RightNumber any bytes at). too_short bytes at n.v n.fits n.stands nothing)
    (λ (w : WrongNumber any bytes at). size w)
    (right_or_wrong any bytes at are)
reason bytes are (may_end following) at nothing = nothing
reason bytes are ended at excess = excess

pub wrong_for_a_reason : WrongForAReason
wrong_for_a_reason bytes are offset first = reason bytes are first.due offset first.wrong
