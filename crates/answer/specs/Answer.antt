-- What a report answers (document 01, "Numbers returned"): what there is to say, the answer and the output that it makes of a lent
-- output, and document 01's number of each answer.
-- Assumes nothing.
use Rattle.std.specs.Prelude.{ℕ, min, List, [], ◌∷◌, ◌≡◌, leb, length, Option, None, Some}
use Rattle.cell.specs.declared.Load.{Load}
use Rattle.basics.specs.Choice.{pick}
use Rattle.text.specs.Writing.{most, over}
use Rattle.answer.specs.declared.Report.{Report}
use Rattle.answer.specs.declared.Report.TheVariants as report

-- "kind (1 action, 2 action and cause)"
abbrev pub kind_of : Option Load → ℕ
kind_of None = 1
kind_of (Some load) = 2

-- what a report has to say, before the output's room is judged: nothing, that the stack lacks room at an index, or a message
-- with its kind, scan count and block count
pub data Said : Type 0 where
  silent : Said
  roomless : ℕ → Said
  said : List ℕ → ℕ → ℕ → ℕ → Said

-- "4: the message exceeds the lent output", with the length needed. That is a number of 64 bits; no case's message is longer.
abbrev pub needed : List ℕ → ℕ
needed message = min (length message) most

abbrev pub answer_by : Said → ℕ → Report
answer_by silent room = report.NoMessage
answer_by (roomless index) room = report.NoRoom index
answer_by (said message kind scan block) room =
    pick (leb (length message) room) (report.Message (length message) kind scan block) (report.NoOutput (needed message))

-- "On 0 the output starts with the message and the rest is unchanged; on others all of it is unchanged."
abbrev pub output_by : Said → List ℕ → List ℕ
output_by silent out = out
output_by (roomless index) out = out
output_by (said message kind scan block) out = pick (leb (length message) (length out)) (over message out) out

-- what is said goes to the output: the answer, and what the output holds afterwards
pub record Delivered (what : Said) (out : List ℕ) (answer : Report) (left : List ℕ) : Type 0 where
  pub answers : answer ≡ answer_by what (length out)
  pub leaves : left ≡ output_by what out

-- document 01's number of an answer, and what it carries; 11 is document 02's (request 11)
unfoldable pub numbered : Report → List ℕ
numbered (report.Message size kind scan block) = 0 ∷ size ∷ kind ∷ scan ∷ block ∷ []
numbered report.NoMessage = 1 ∷ []
numbered (report.Broken offset) = 2 ∷ offset ∷ []
numbered (report.NoRoom index) = 3 ∷ index ∷ []
numbered (report.NoOutput size) = 4 ∷ size ∷ []
numbered report.TooLong = 5 ∷ []
numbered report.NoWording = 11 ∷ []
