-- A text written into an output: the bytes that the output holds afterwards, and the place that follows. The place counts the
-- whole text, so writing from the output's end on writes nothing and tells how long the text is.
-- Assumes nothing.
use Rattle.std.specs.Prelude.{ℕ, zero, suc, ◌+◌, ◌-◌, ◌^◌, min, ◌≡◌, List, [], ◌∷◌, length}

-- a text over the start of an output, as far as that reaches; the rest is unchanged
unfoldable pub over : List ℕ → List ℕ → List ℕ
over [] out = out
over (x ∷ text) [] = []
over (x ∷ text) (y ∷ out) = x ∷ over text out

-- the same from a place on
unfoldable pub splice : ℕ → List ℕ → List ℕ → List ℕ
splice zero text out = over text out
splice (suc at) text [] = []
splice (suc at) text (y ∷ out) = y ∷ splice at text out

-- the greatest number that a place can be
abbrev pub most : ℕ
most = 2 ^ 64 - 1

-- the place after a text that starts at a place, also where the output ends before it
unfoldable pub following : ℕ → List ℕ → ℕ
following at text = min (at + length text) most

-- what writing a text from a place on answers, and what it leaves in the output
pub record Written (at : ℕ) (text out : List ℕ) (next : ℕ) (after : List ℕ) : Type 0 where
  pub place : next ≡ following at text
  pub bytes : after ≡ splice at text out
