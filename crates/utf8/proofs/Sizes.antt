-- A form lies in the bytes that it starts: its last byte is not 0, and past the end every byte is. It turns to no more bytes.
-- Assumes nothing.
use Prim.Native.Nat.{ℕ, ◌+◌, ◌-◌, ◌≤◌, ◌<◌}
use native.Mathlib.Nat.{add-zero}
use native.Mathlib.Omega.{arith}
use mathlib.Core.Bool.{Bool, true, false}
use mathlib.Core.List.{List, [], ◌∷◌}
use mathlib.Core.Path.{◌≡◌, refl, ◌∙◌, ap}
use lib.Dec.{T, eqb, leb, eqb→eq}
use lib.ListN.{length, drop, length-drop}
use lib.Seq.{get_or-drop}
use borrow.Author.Tests.{leb-true, leb-false}
use Rattle.basics.specs.Bytes.{byte_at}
use Rattle.basics.specs.Choice.{pick, both, between}
use Rattle.basics.proofs.Bytes.{byte_past}
use Rattle.basics.proofs.Choice.{chosen}
use Rattle.basics.proofs.Every.{both_first, both_second}
use Rattle.utf8.specs.Turning.{is_single, is_tail, is_pair, is_triple, is_trail, size_by, size_of}
use Rattle.utf8.specs.Turning.{Turned, turns, pair_by, point_by, four_bytes, surrogate_by, triple_by, turn_by, turn_of}
use Rattle.utf8.proofs.Ranges.{from_low, chosen_if}

-- ---- a byte behind the first is 80 at least

pub pair_second : (x y : ℕ) → T (is_pair x y) → 128 ≤ y
pair_second x y =
    chosen_if (λ (b : Bool). T b → 128 ≤ y) (eqb x 192) (eqb y 128) (both (between 194 223 x) (is_tail y))
    (λ s t. omega (arith, eqb→eq y 128 t)) (λ t. from_low 128 191 y (both_second (between 194 223 x) (is_tail y) t))

module _ (x y z : ℕ) (t : T (is_triple x y z)) where
  pub triple_second : 128 ≤ y
  triple_second =
      chosen_if (λ (b : Bool). T b → 128 ≤ y) (eqb x 224) (between 160 191 y) (both (between 225 239 x) (is_tail y))
      (λ s r. omega (arith, from_low 160 191 y r)) (λ r. from_low 128 191 y (both_second (between 225 239 x) (is_tail y) r))
      (both_second (is_tail z) (pick (eqb x 224) (between 160 191 y) (both (between 225 239 x) (is_tail y))) t)

  pub triple_third : 128 ≤ z
  triple_third =
      from_low 128 191 z (both_first (is_tail z) (pick (eqb x 224) (between 160 191 y) (both (between 225 239 x) (is_tail y))) t)

trail_third : (u v w : ℕ) → T (is_trail u v w) → 128 ≤ w
trail_third u v w t =
    from_low 128 191 w (both_second (between 176 191 v) (is_tail w) (both_second (eqb u 237) (both (between 176 191 v) (is_tail w)) t))

-- ---- a byte that is not 0 lies in the bytes

byte_inside : (bytes : List ℕ) (i : ℕ) → 0 < byte_at bytes i → i < length bytes
byte_inside bytes i some = by_place (leb (length bytes) i) refl
  where
    by_place : (t : Bool) → leb (length bytes) i ≡ t → i < length bytes
    by_place true e = absurd (omega (arith, byte_past bytes i (leb-true (length bytes) i e)))
    by_place false e = leb-false (length bytes) i e

module _ (bytes : List ℕ) where
  abbrev x : ℕ
  x = byte_at bytes 0

  abbrev y : ℕ
  y = byte_at bytes 1

  abbrev z : ℕ
  z = byte_at bytes 2

  abbrev u : ℕ
  u = byte_at bytes 3

  abbrev v : ℕ
  v = byte_at bytes 4

  abbrev w : ℕ
  w = byte_at bytes 5

  one_byte : T (is_single x) → 1 ≤ length bytes
  one_byte t = byte_inside bytes 0 (from_low 1 127 x t)

  two_bytes : T (is_pair x y) → 2 ≤ length bytes
  two_bytes t = let h = pair_second x y t in byte_inside bytes 1 (omega (arith, h))

  three_bytes : T (is_triple x y z) → 3 ≤ length bytes
  three_bytes t = let h = triple_third x y z t in byte_inside bytes 2 (omega (arith, h))

  six_bytes : T (is_trail u v w) → 6 ≤ length bytes
  six_bytes t = let h = trail_third u v w t in byte_inside bytes 5 (omega (arith, h))

  size_inside : size_of bytes ≤ length bytes
  unfolding size_of size_by
  size_inside =
      chosen_if Inside (is_single x) 1 (pick (is_pair x y) 2 (pick (is_triple x y z) 3 0)) one_byte
      (chosen_if Inside (is_pair x y) 2 (pick (is_triple x y z) 3 0) two_bytes
      (chosen_if Inside (is_triple x y z) 3 0 three_bytes (omega arith)))
    where
      Inside : ℕ → Type 0
      Inside n = n ≤ length bytes

  -- what is taken lies in the bytes, and no more is given
  abbrev pub Fits : Turned → Type 0
  Fits t = (t.taken ≤ length bytes) × (length t.given ≤ t.taken)

  pair_fits : 2 ≤ length bytes → Fits (pair_by x y)
  pair_fits two = chosen Fits (eqb x 192) (turns 2 (0 ∷ [])) (turns 2 (x ∷ y ∷ [])) (two, omega arith) (two, omega arith)

  triple_fits : 3 ≤ length bytes → Fits (triple_by x y z u v w)
  triple_fits three =
      chosen Fits (both (eqb x 237) (leb 160 y)) (surrogate_by y z u v w) (turns 3 (x ∷ y ∷ z ∷ []))
      (chosen_if Fits (both (leb y 175) (is_trail u v w)) (turns 6 (four_bytes (point_by y z v w))) (turns 3 (239 ∷ 191 ∷ 189 ∷ []))
      (λ t. (six_bytes (both_second (leb y 175) (is_trail u v w) t), omega arith)) (three, omega arith))
      (three, omega arith)

  pub turn_fits : Fits (turn_of bytes)
  unfolding turn_of turn_by
  turn_fits =
      chosen_if Fits (is_single x) (turns 1 (x ∷ []))
      (pick (is_pair x y) (pair_by x y) (pick (is_triple x y z) (triple_by x y z u v w) (turns 0 []))) (λ t. (one_byte t, omega arith))
      (chosen_if Fits (is_pair x y) (pair_by x y) (pick (is_triple x y z) (triple_by x y z u v w) (turns 0 []))
      (λ t. pair_fits (two_bytes t))
      (chosen_if Fits (is_triple x y z) (triple_by x y z u v w) (turns 0 []) (λ t. triple_fits (three_bytes t)) (omega arith, omega arith)))

-- ---- the same at a place of a text

module _ (text : List ℕ) (at : ℕ) where
  from : (i : ℕ) → byte_at (drop at text) i ≡ byte_at text (at + i)
  from i = get_or-drop at text i 0

  from_first : byte_at (drop at text) 0 ≡ byte_at text at
  from_first = from 0 ∙ ap (λ (k : ℕ). byte_at text k) (add-zero at)

  pub size_from :
      (a b c : ℕ) → a ≡ byte_at text at → b ≡ byte_at text (at + 1) → c ≡ byte_at text (at + 2) → size_by a b c ≡ size_of (drop at text)
  unfolding size_of
  size_from a b c ea eb ec = rw (from_first, from 1, from 2, ← ea, ← eb, ← ec)

  pub turn_from :
      (a b c d e f : ℕ) → a ≡ byte_at text at → b ≡ byte_at text (at + 1) → c ≡ byte_at text (at + 2) → d ≡ byte_at text (at + 3) →
      e ≡ byte_at text (at + 4) → f ≡ byte_at text (at + 5) → turn_by a b c d e f ≡ turn_of (drop at text)
  unfolding turn_of
  turn_from a b c d e f ea eb ec ed ee ef =
      rw (from_first, from 1, from 2, from 3, from 4, from 5, ← ea, ← eb, ← ec, ← ed, ← ee, ← ef)

  -- what is taken at a place ends in the text
  pub turn_ends : (taken : ℕ) → at ≤ length text → (turn_of (drop at text)).taken ≡ taken → at + taken ≤ length text
  turn_ends taken inside is =
      let h : (turn_of (drop at text)).taken ≤ length text - at = rw length-drop at (turn_fits (drop at text)).0 in omega arith

  pub size_ends : (size : ℕ) → at ≤ length text → size_of (drop at text) ≡ size → at + size ≤ length text
  size_ends size inside is =
      let h : size_of (drop at text) ≤ length text - at = rw length-drop at (size_inside (drop at text)) in omega arith
