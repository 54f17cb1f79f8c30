-- What an inner function writes before a parameter. Nothing that is promised rests on it: the promise is `parameter_names`.
-- Assumes nothing.
use Rattle.std.specs.Prelude.{ℕ, List, [], eqb}
use Rattle.basics.specs.Ascii.{ascii}
use Rattle.basics.specs.Choice.{pick}

-- the comma before the parameter at an index of its descriptor: the first stands at 1
abbrev pub comma_before : ℕ → List ℕ
comma_before index = pick (eqb index 1) [] (ascii ", ")
