-- Answers lose nothing: no two answers of a walk have the same numbers. Proved in proofs/Answers.antt.
-- Assumes nothing.
use Rattle.std.specs.Prelude.{◌≡◌}
use Rattle.walk.specs.Room.{numbered}
use Rattle.walk.specs.declared.Walk.{Walk}

-- the numbers tell the answer
abbrev pub NumberedInjective : Type 0
NumberedInjective = (one other : Walk) → numbered one ≡ numbered other → one ≡ other
