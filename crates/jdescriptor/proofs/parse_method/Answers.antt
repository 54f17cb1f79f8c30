-- `jdescriptor::parse_method` meets its contract. By what judging answers.
-- Assumes nothing.
use mathlib.Core.Path.{◌∙◌, sym}
use Rattle.judging.specs.Reading.{method_reading}
use Rattle.jdescriptor.proofs.Answering.{too_small, fitting, turned_down}
use Rattle.jdescriptor.proofs.parse_method.Goals as goal

pub returns-then-numbers-count : goal.returns-then-numbers-count
returns-then-numbers-count c =
    let e = sym c.judge_method.ensures ∙ c.in_ok-count.was in
    let all = too_small (method_reading c.args.text.now) _ c.args.numbers.now e c.if-numbers-count.true in
    record { value = all.0; numbers_after = all.1 }

pub returns-in_err-count-clause-numbers_after : goal.returns-in_err-count-clause-numbers_after
returns-in_err-count-clause-numbers_after c =
    let e = sym c.judge_method.ensures ∙ c.in_err-count.was in
    (turned_down (method_reading c.args.text.now) _ c.args.numbers.now e).1

pub returns : goal.returns
returns c =
    let e = sym c.judge_method.ensures ∙ c.in_ok-count.was in
    let all = fitting (method_reading c.args.text.now) _ c.args.numbers.now _ e c.if-numbers-count.false c.fill_method.ensures in
    record { value = all.0; numbers_after = all.1 }
