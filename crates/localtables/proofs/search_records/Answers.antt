-- `localtables::search_records` meets its contract. The invariant: the first match of the records that are left is the first
-- match of all of them.
-- Assumes nothing.
use native.Mathlib.Omega.{arith}
use mathlib.Core.Path.{◌≡◌, refl, ◌∙◌, sym, ap, subst}
use mathlib.Core.List.{List}
use Prim.Native.Nat.{ℕ, ◌-◌, ◌+◌}
use Rattle.format.specs.Format.{times, right, read_by}
use Rattle.format.proofs.Items.{failed}
use Rattle.classformat.specs.Contents.{Local}
use Rattle.classformat.specs.ClassFile.{local_format}
use Rattle.entries.specs.Entries.{names_by}
use Rattle.bodies.specs.Body.{record_told}
use Rattle.bodies.specs.declared.LocalPlace.{LocalPlace}
use Rattle.bodies.proofs.Told.{record_is}
use Rattle.localtables.specs.Locals.{first_local}
use Rattle.localtables.proofs.Behind.{never, some_left, none_left}
use Rattle.localtables.proofs.First.{place_matches, place_passes}
use Rattle.localtables.proofs.search_records.Goals as goal

pub loop-init : goal.loop-init
loop-init c =
    let all : c.args.records.count - 0 ≡ c.args.records.count = omega arith in
    λ locals end is. (locals, rw all is, refl)

pub returns-in_default : goal.returns-in_default
returns-in_default c =
    let a = c.args in
    let l = c.loop in
    let one = local_format (names_by a.file.now a.table.now) a.records.stop in
    λ locals end is.
    let now = l.invariant locals end is in
    let f = some_left one a.file.now l.at (a.records.count - l.counter) (a.records.count - (l.counter + 1)) (omega arith) now.1 in
    never f.read (failed _ (read_by one a.file.now l.at) (sym c.read_local.ensures ∙ c.in_default.is))

pub returns-then-covers_load : goal.returns-then-covers_load
returns-then-covers_load c =
    let a = c.args in
    let l = c.loop in
    let one = local_format (names_by a.file.now a.table.now) a.records.stop in
    λ locals end is.
    let now = l.invariant locals end is in
    let f = some_left one a.file.now l.at (a.records.count - l.counter) (a.records.count - (l.counter + 1)) (omega arith) now.1 in
    let same = record_is f.first f.next (sym (ap record_told f.read) ∙ sym c.read_local.ensures ∙ c.in-Ok.is) in
    sym (now.2 ∙ ap (λ (ls : List Local). first_local ls a.slot a.load) f.whole ∙ place_matches a.slot a.load f.first f.rest f.next same (sym c.covers_load.ensures ∙ c.if-covers_load.true))

pub loop-preserved : goal.loop-preserved
loop-preserved c =
    let a = c.args in
    let l = c.loop in
    let one = local_format (names_by a.file.now a.table.now) a.records.stop in
    λ locals end is.
    let now = l.invariant locals end is in
    let f = some_left one a.file.now l.at (a.records.count - l.counter) (a.records.count - (l.counter + 1)) (omega arith) now.1 in
    let same = record_is f.first f.next (sym (ap record_told f.read) ∙ sym c.read_local.ensures ∙ c.in-Ok.is) in (
      f.rest,
      subst (λ (n : ℕ). read_by (times (a.records.count - (l.counter + 1)) one) a.file.now n ≡ right f.rest end) (ap (λ (p : LocalPlace). p.next) same) f.onward,
      now.2 ∙ ap (λ (ls : List Local). first_local ls a.slot a.load) f.whole ∙ place_passes a.slot a.load f.first f.rest f.next same (sym c.covers_load.ensures ∙ c.if-covers_load.false),
    )

pub returns : goal.returns
unfolding first_local
returns c =
    let a = c.args in
    let l = c.loop in
    λ locals end is.
    let now = l.invariant locals end is in
    sym (now.2 ∙ ap (λ (ls : List Local). first_local ls a.slot a.load) (none_left (local_format (names_by a.file.now a.table.now) a.records.stop) a.file.now l.at (a.records.count - l.counter) (omega arith) now.1))
