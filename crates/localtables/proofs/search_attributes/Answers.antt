-- `localtables::search_attributes` meets its contract. The invariant: the first match of the attributes that are left is the
-- first match of all of them.
-- Assumes nothing.
use native.Mathlib.Omega.{arith}
use mathlib.Core.Path.{◌≡◌, refl, ◌∙◌, sym, ap, subst}
use mathlib.Core.List.{List}
use Prim.Native.Nat.{ℕ, ◌-◌, ◌+◌}
use Rattle.format.specs.Format.{times, right, read_by}
use Rattle.classformat.specs.Contents.{Local}
use Rattle.classformat.specs.ClassFile.{joined, code_attribute_format}
use Rattle.entries.specs.Entries.{names_by}
use Rattle.localtables.specs.Locals.{first_local}
use Rattle.localtables.proofs.Behind.{some_left, none_left}
use Rattle.localtables.proofs.First.{found_first, missing_first}
use Rattle.localtables.proofs.search_attributes.Goals as goal

pub loop-init : goal.loop-init
loop-init c =
    let all : c.args.attributes.count - 0 ≡ c.args.attributes.count = omega arith in
    λ tables end is. (tables, rw all is, refl)

pub returns-in-Some : goal.returns-in-Some
unfolding joined
returns-in-Some c =
    let a = c.args in
    let l = c.loop in
    λ tables end is.
    let now = l.invariant tables end is in
    let f = some_left (code_attribute_format (names_by a.file.now a.table.now) a.limit) a.file.now l.at (a.attributes.count - l.counter) (a.attributes.count - (l.counter + 1)) (omega arith) now.1 in
    let records = c.records_at-records.ensures.1 f.first f.next f.read in
    let found = c.search_records.ensures f.first f.next records.1 in
    sym (now.2 ∙ ap (λ (ts : List (List Local)). first_local (joined ts) a.slot a.load) f.whole ∙ found_first a.slot a.load (joined f.rest) f.first (sym found ∙ c.in-Some.is))

pub loop-preserved : goal.loop-preserved
unfolding joined
loop-preserved c =
    let a = c.args in
    let l = c.loop in
    λ tables end is.
    let now = l.invariant tables end is in
    let f = some_left (code_attribute_format (names_by a.file.now a.table.now) a.limit) a.file.now l.at (a.attributes.count - l.counter) (a.attributes.count - (l.counter + 1)) (omega arith) now.1 in
    let records = c.records_at-records.ensures.1 f.first f.next f.read in
    let found = c.search_records.ensures f.first f.next records.1 in (
      f.rest,
      subst (λ (n : ℕ). read_by (times (a.attributes.count - (l.counter + 1)) (code_attribute_format (names_by a.file.now a.table.now) a.limit)) a.file.now n ≡ right f.rest end) (sym records.0) f.onward,
      now.2 ∙ ap (λ (ts : List (List Local)). first_local (joined ts) a.slot a.load) f.whole ∙ missing_first a.slot a.load (joined f.rest) f.first (sym found ∙ c.in-None.is),
    )

pub returns : goal.returns
unfolding first_local joined
returns c =
    let a = c.args in
    let l = c.loop in
    λ tables end is.
    let now = l.invariant tables end is in
    sym (now.2 ∙ ap (λ (ts : List (List Local)). first_local (joined ts) a.slot a.load) (none_left (code_attribute_format (names_by a.file.now a.table.now) a.limit) a.file.now l.at (a.attributes.count - l.counter) (omega arith) now.1))
