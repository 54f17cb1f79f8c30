-- Each form of contract allows one outcome.
-- Assumes nothing.
use mathlib.Core.Path.{◌≡◌}
use Rattle.basics.proofs.Outcome.{one_outcome}
use Rattle.fixed.proofs.Laws.{fixed_lengths_once}
use Rattle.index.proofs.Tables.{tabled_once}
use Rattle.answer.proofs.Answers.{delivered-once}
use Rattle.text.proofs.Writing.{written_once}
use Rattle.promises.specs.Once.{Left, LeftBoth, OneOutcome}

-- outcomes are equal part by part
left_is :
    {A : Type 0} {one another : Left A} → one.result ≡ another.result → one.slice ≡ another.slice → one ≡ another
left_is result slice = λ i. record { result = result i; slice = slice i }

left_both_is :
    {A : Type 0} {one another : LeftBoth A} →
    one.result ≡ another.result → one.first ≡ another.first → one.second ≡ another.second → one ≡ another
left_both_is result first second = λ i. record { result = result i; first = first i; second = second i }

pub one_outcome_each : OneOutcome
one_outcome_each =
    record {
      value = λ wanted one another is was. one_outcome is was;
      lent = λ wanted left one another is was. left_is (one_outcome is.0 was.0) (one_outcome is.1 was.1);
      lent_both = λ wanted left other one another is was.
          left_both_is (one_outcome is.0 was.0) (one_outcome is.1 was.1) (one_outcome is.2 was.2);
      written = λ at text out one another is was. let same = written_once is was in left_is same.0 same.1;
      delivered = λ what out one another is was. let same = delivered-once is was in left_is same.0 same.1;
      fixed_lengths = fixed_lengths_once;
      tabled = tabled_once;
    }
