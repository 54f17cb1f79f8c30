-- An answer is told by its numbers (document 01, "Numbers returned").
-- Assumes nothing.
use Rattle.std.specs.Prelude.{◌≡◌}
use Rattle.answer.specs.Answer.{numbered}
use Rattle.answer.specs.declared.Report.{Report}

abbrev pub NumberedInjective : Type 0
NumberedInjective = (one another : Report) → numbered one ≡ numbered another → one ≡ another
