-- `localtables::count_attributes` meets its contract. The invariant: the records so far and those of the attributes that are left
-- are all of them, and there is room for as many as the attributes that are left can have.
-- Assumes nothing.
use Prim.Native.Nat.{ℕ, ◌+◌, ◌-◌, ◌<◌}
use native.Mathlib.Omega.{arith}
use mathlib.Core.Path.{◌≡◌, ◌∙◌, sym, ap, subst}
use mathlib.Core.List.{List, ◌++◌}
use lib.ListN.{length, length-append}
use Rattle.format.specs.Format.{times, right, read_by}
use Rattle.format.proofs.Was.{so_many}
use Rattle.classformat.specs.Contents.{Local}
use Rattle.classformat.specs.ClassFile.{joined, local_format, code_attribute_format}
use Rattle.entries.specs.Entries.{names_by}
use Rattle.localtables.proofs.Behind.{some_left, none_left}
use Rattle.localtables.proofs.count_attributes.Goals as goal

pub loop-init : goal.loop-init
loop-init c =
    let all : c.args.attributes.count - 0 ≡ c.args.attributes.count = omega arith in
    (omega arith, λ tables end is. (tables, rw all is, omega arith))

pub overflow_add-total : goal.overflow_add-total
overflow_add-total c =
    let few : c.args.attributes.count < 65536 = c.requires in
    omega (arith, few, c.loop.invariant.0, c.records_at-records.ensures.0)

pub loop-preserved : goal.loop-preserved
unfolding joined
loop-preserved c =
    let a = c.args in
    let l = c.loop in
    let records = c.records_at-records.result in (
      omega (arith, l.invariant.0, c.records_at-records.ensures.0),
      λ tables end is.
          let now = l.invariant.1 tables end is in
          let f = some_left (code_attribute_format (names_by a.file.now a.table.now) a.limit) a.file.now l.at (a.attributes.count - l.counter) (a.attributes.count - (l.counter + 1)) (omega arith) now.1 in
          let those = c.records_at-records.ensures.1 f.first f.next f.read in
          let so : length f.first ≡ records.count = so_many (local_format (names_by a.file.now a.table.now) records.stop) records.count a.file.now records.from those.1 in
          let all : length (f.first ++ joined f.rest) ≡ length f.first + length (joined f.rest) = length-append f.first (joined f.rest) in
          let sum : l.total + length (f.first ++ joined f.rest) ≡ l.total + records.count + length (joined f.rest) = omega (arith, so, all) in (
            f.rest,
            subst (λ (n : ℕ). read_by (times (a.attributes.count - (l.counter + 1)) (code_attribute_format (names_by a.file.now a.table.now) a.limit)) a.file.now n ≡ right f.rest end) (sym those.0) f.onward,
            now.2 ∙ ap (λ (ts : List (List Local)). l.total + length (joined ts)) f.whole ∙ sum,
          ),
    )

pub returns : goal.returns
unfolding joined
returns c =
    let a = c.args in
    let l = c.loop in
    λ tables end is.
    let now = l.invariant.1 tables end is in
    let sum : length (joined tables) ≡ l.total + 0 = now.2 ∙ ap (λ (ts : List (List Local)). l.total + length (joined ts)) (none_left (code_attribute_format (names_by a.file.now a.table.now) a.limit) a.file.now l.at (a.attributes.count - l.counter) (omega arith) now.1) in
    omega (arith, sum)
