-- `classname::put_class_name` meets its contract. One answer for each kind of name.
-- Assumes nothing.
use mathlib.Core.Path.{◌∙◌, sym}
use Rattle.basics.specs.Ascii.{ascii}
use Rattle.classname.specs.ClassName.{class_name}
use Rattle.basics.proofs.Same.{same_told}
use Rattle.classname.proofs.put_class_name.Goals as goal

pub returns-then-same : goal.returns-then-same
unfolding class_name
returns-then-same c =
    let name = c.args.name.now in
    let s = c.same in
    rw (same_told s.result name (ascii "java/lang/String") s.ensures.0 s.ensures.1 ∙ c.if-same.true) c.put.ensures

pub returns-then-same-2 : goal.returns-then-same-2
unfolding class_name
returns-then-same-2 c =
    let name = c.args.name.now in
    let s = c.same in
    let o = c.same-2 in
    rw (
      same_told s.result name (ascii "java/lang/String") s.ensures.0 s.ensures.1 ∙ c.if-same.false,
      same_told o.result name (ascii "java/lang/Object") o.ensures.0 o.ensures.1 ∙ c.if-same-2.true,
    ) c.put-then-same-2.ensures

pub returns-then-starts_with_bracket : goal.returns-then-starts_with_bracket
unfolding class_name
returns-then-starts_with_bracket c =
    let name = c.args.name.now in
    let s = c.same in
    let o = c.same-2 in
    rw (
      same_told s.result name (ascii "java/lang/String") s.ensures.0 s.ensures.1 ∙ c.if-same.false,
      same_told o.result name (ascii "java/lang/Object") o.ensures.0 o.ensures.1 ∙ c.if-same-2.false,
      sym c.starts_with_bracket.ensures ∙ c.if-starts_with_bracket.true,
    ) c.put-then-starts_with_bracket.ensures

pub returns : goal.returns
unfolding class_name
returns c =
    let name = c.args.name.now in
    let s = c.same in
    let o = c.same-2 in
    rw (
      same_told s.result name (ascii "java/lang/String") s.ensures.0 s.ensures.1 ∙ c.if-same.false,
      same_told o.result name (ascii "java/lang/Object") o.ensures.0 o.ensures.1 ∙ c.if-same-2.false,
      sym c.starts_with_bracket.ensures ∙ c.if-starts_with_bracket.false,
    ) c.put_dotted.ensures
