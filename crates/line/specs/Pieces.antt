-- What the inner functions write: the head of an answer that carries a number, and that of an answer 0. Nothing that is promised
-- rests on it: the promise is Head.antt's.
-- Assumes nothing.
use Rattle.std.specs.Prelude.{ℕ, List, ◌++◌}
use Rattle.basics.specs.Ascii.{ascii}
use Rattle.text.specs.Decimal.{decimal}
use Rattle.line.specs.Head.{spaced}

-- the answer's digit is given
unfoldable pub carried : List ℕ → ℕ → List ℕ
carried answer n = answer ++ ascii " 0 0 0 " ++ decimal n

unfoldable pub counted : ℕ → ℕ → ℕ → List ℕ
counted kind scan block = ascii "0 " ++ spaced kind ++ spaced scan ++ spaced block
