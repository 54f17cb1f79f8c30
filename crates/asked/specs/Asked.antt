-- What the words of the program ask for (document 02, requests 1 and 11): `--full` the full model, `--wording` and a decimal number the
-- wording that it names; in any order, and of two the last holds. What names nothing gets what a call gets that names nothing.
-- Assumes nothing.
use Rattle.std.specs.Prelude.{ℕ, ◌+◌, ◌-◌, ◌*◌, List, [], ◌∷◌, Some}
use Rattle.basics.specs.Ascii.{ascii}
use Rattle.basics.specs.Choice.{pick, between, same_list}
use Rattle.effects.specs.declared.Model.TheVariants.{Full as FullModel}
use Rattle.report.specs.Report.{default_manner}
use Rattle.words.specs.Wording.{wording_by}
use Rattle.asked.specs.declared.Asked.{Asked}
use Rattle.asked.specs.declared.State.{State}
use Rattle.asked.specs.declared.State.TheVariants.{Whole, Pending, Wrong}
use Rattle.asked.specs.declared.Word.{Word}
use Rattle.asked.specs.declared.Word.TheVariants.{Full, Wording, Number, Other}

-- ---- one word

-- decimal digits behind a number that was read: the wording that the whole number names, of any length
abbrev pub digits_behind : ℕ → List ℕ → Word
digits_behind number [] = Number (wording_by number)
digits_behind number (d ∷ ds) = pick (between 48 57 d) (digits_behind (10 * number + (d - 48)) ds) Other

abbrev pub decimal_in : List ℕ → Word
decimal_in [] = Other
decimal_in (d ∷ ds) = digits_behind 0 (d ∷ ds)

unfoldable pub word_of : List ℕ → Word
word_of text = pick (same_list text (ascii "--full")) Full (pick (same_list text (ascii "--wording")) Wording (decimal_in text))

-- ---- all words

abbrev pub unasked : Asked
unasked = record { model = default_manner.model; wording = Some default_manner.wording; state = Whole }

abbrev pub wrongly : Asked → Asked
wrongly asked = record { model = asked.model; wording = asked.wording; state = Wrong }

-- one word more, by whether those before are whole, lack a number, or have a wrong one among them
abbrev pub after_in : State → Asked → Word → Asked
after_in Whole asked Full = record { model = FullModel; wording = asked.wording; state = Whole }
after_in Whole asked Wording = record { model = asked.model; wording = asked.wording; state = Pending }
after_in Whole asked (Number named) = wrongly asked
after_in Whole asked Other = wrongly asked
after_in Pending asked (Number named) = record { model = asked.model; wording = named; state = Whole }
after_in Pending asked Full = wrongly asked
after_in Pending asked Wording = wrongly asked
after_in Pending asked Other = wrongly asked
after_in Wrong asked word = asked

abbrev pub after_word : Asked → Word → Asked
after_word asked word = after_in asked.state asked word
