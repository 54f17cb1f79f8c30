-- The line that the program prints (document 01, "Bench rows"): "answer, kind, scan count, block count, then the message for 0 or
-- the number carried by 2, 3, 4, with single spaces; kind and counts are 0 unless the answer is 0". This is all of it but the
-- message and the newline, by the answer's numbers (`numbered`).
-- Assumes nothing.
use Rattle.std.specs.Prelude.{ℕ, List, [], ◌∷◌, ◌++◌}
use Rattle.basics.specs.Ascii.{ascii}
use Rattle.text.specs.Decimal.{decimal}
use Rattle.answer.specs.Answer.{numbered}
use Rattle.answer.specs.declared.Report.{Report}

-- a number and a space
unfoldable pub spaced : ℕ → List ℕ
spaced n = decimal n ++ ascii " "

unfoldable pub all_spaced : List ℕ → List ℕ
all_spaced [] = []
all_spaced (n ∷ ns) = spaced n ++ all_spaced ns

-- by an answer's number and what it carries. With 0 the message's length comes before the kind; the message itself is printed.
unfoldable pub head_by : List ℕ → List ℕ
head_by [] = []
head_by (answer ∷ []) = decimal answer ++ ascii " 0 0 0"
head_by (answer ∷ n ∷ []) = decimal answer ++ ascii " 0 0 0 " ++ decimal n
head_by (answer ∷ size ∷ kind ∷ counts) = all_spaced (answer ∷ kind ∷ counts)

unfoldable pub head_text : Report → List ℕ
head_text answer = head_by (numbered answer)
