-- Two lists that go together, item by item.
-- Assumes nothing.
use Rattle.std.specs.Prelude.{List, [], ◌∷◌}

pub data Each {A B : Type 0} (R : A → B → Type 0) : List A → List B → Type 0 where
  none : Each R [] []
  one :
      {a : A} {b : B} {firsts : List A} {seconds : List B} →
      R a b → Each R firsts seconds → Each R (a ∷ firsts) (b ∷ seconds)
