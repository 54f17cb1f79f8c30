-- `records::find_in_runs` meets its contract. The loop's invariant: the first match from here is the first match from the start.
-- Assumes nothing.
use Prim.Native.Nat.{ℕ}
use native.Mathlib.Omega.{arith}
use mathlib.Core.Path.{◌≡◌, ◌∙◌, sym, ap}
use lib.ListN.{get_or}
use Rattle.tables.specs.LocalRecord.{records_in}
use Rattle.search.specs.Search.{first_match}
use Rattle.records.specs.Run.{blank}
use Rattle.records.proofs.Eights.{name_found, search_ends, search_goes_on}
use Rattle.records.proofs.Within.{answered}
use Rattle.records.proofs.find_in_runs.Goals as goal

pub returns-in-Some : goal.returns-in-Some
returns-in-Some c =
    let loop = c.loop-left in
    let a = c.args in
    answered a.records.now a.slot a.load a.count _
    (name_found a.records.now blank a.slot a.load 7 loop.left loop.at c.eight_records-eight.result
    c.eight_records-eight.ensures c.in-Some.name.0 c.in-Some.name.1
    (sym c.search_eight-found.ensures ∙ c.in-Some.is)
    ∙ loop.invariant)

pub returns-then-last-eq0 : goal.returns-then-last-eq0
returns-then-last-eq0 c =
    let loop = c.loop-left in
    let a = c.args in (
      search_ends a.records.now blank a.slot a.load 7 loop.left loop.at c.eight_records-eight.result
          c.eight_records-eight.ensures c.if-last-eq0.true (sym c.search_eight-found.ensures ∙ c.in_default.is)
          ∙ loop.invariant,
      tt,
    )

pub loop-left-smaller : goal.loop-left-smaller
loop-left-smaller c = omega arith

pub loop-left-preserved : goal.loop-left-preserved
loop-left-preserved c =
    let loop = c.loop-left in
    let a = c.args in
    let last = get_or c.eight_records-eight.result 7 blank in
    ap (λ (left : ℕ). first_match (records_in a.records.now left last.to) a.slot a.load) c.saturating_sub-left.ensures
    ∙ search_goes_on a.records.now blank a.slot a.load 7 loop.left loop.at c.eight_records-eight.result
    c.eight_records-eight.ensures c.if-last-eq0.false (sym c.search_eight-found.ensures ∙ c.in_default.is)
    ∙ loop.invariant

pub returns : goal.returns
unfolding records_in first_match
returns c =
    let a = c.args in
    let loop = c.loop-left in
    let none : loop.left ≡ 0 = omega arith in
    answered a.records.now a.slot a.load a.count _ (rw none at loop.invariant)
