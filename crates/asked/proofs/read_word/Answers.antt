-- `asked::read_word` meets its contract. The two words, else a number or nothing.
-- Assumes nothing.
use mathlib.Core.Path.{◌∙◌}
use Rattle.basics.specs.Ascii.{ascii}
use Rattle.basics.proofs.Same.{same_told}
use Rattle.asked.specs.Asked.{word_of}
use Rattle.asked.proofs.read_word.Goals as goal

pub returns-then-same : goal.returns-then-same
unfolding word_of
returns-then-same c =
    let s = c.same in
    let text = c.args.text.now in
    rw (same_told s.result text (ascii "--full") s.ensures.0 s.ensures.1 ∙ c.if-same.true)

pub returns-then-same-2 : goal.returns-then-same-2
unfolding word_of
returns-then-same-2 c =
    let s = c.same in
    let s' = c.same-2 in
    let text = c.args.text.now in
    rw (
      same_told s.result text (ascii "--full") s.ensures.0 s.ensures.1 ∙ c.if-same.false,
      same_told s'.result text (ascii "--wording") s'.ensures.0 s'.ensures.1 ∙ c.if-same-2.true,
    )

pub returns : goal.returns
unfolding word_of
returns c =
    let s = c.same in
    let s' = c.same-2 in
    let text = c.args.text.now in
    rw (
      same_told s.result text (ascii "--full") s.ensures.0 s.ensures.1 ∙ c.if-same.false,
      same_told s'.result text (ascii "--wording") s'.ensures.0 s'.ensures.1 ∙ c.if-same-2.false,
    ) c.read_decimal.ensures
