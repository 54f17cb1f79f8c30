-- `jtype::class_type` meets its contract. By what the search for the semicolon answers.
-- Assumes nothing.
use native.Mathlib.Omega.{arith}
use mathlib.Core.Path.{◌∙◌, sym}
use Rattle.bytesearch.proofs.Search.{found-inside}
use Rattle.jtype.proofs.class_type.Goals as goal

pub overflow_sub-t : goal.overflow_sub-t
overflow_sub-t c =
    let a = c.args in
    let found = sym c.find_byte.ensures ∙ c.in-Some.is in
    omega (arith, rw found at (found-inside 59 a.text.now a.from))

pub overflow_add-result : goal.overflow_add-result
overflow_add-result c =
    let a = c.args in
    let found = sym c.find_byte.ensures ∙ c.in-Some.is in
    omega (arith, rw found at (found-inside 59 a.text.now a.from))
