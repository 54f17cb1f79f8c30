-- `pool::read_pool` meets its contract. The loop's invariant: from here on the pool answers what all of it answers, and the table becomes
-- what it becomes by all of it.
-- Assumes nothing.
use Prim.Native.Nat.{ℕ, ◌-◌}
use native.Mathlib.Omega.{arith}
use mathlib.Core.Path.{◌≡◌, ◌∙◌, sym, ap}
use mathlib.Core.Bool.{true, false}
use mathlib.Core.List.{List}
use lib.ListN.{length, set, replicate, length-replicate}
use Rattle.basics.specs.Bytes.{byte_at}
use Rattle.format.proofs.Items.{passed_on}
use Rattle.classformat.specs.ClassFile.{wide}
use Rattle.pool.specs.Pool.{placed, places_in}
use Rattle.pool.proofs.Filling.{starts, taken, goes_on, reads_entry, passes_number, stops, ends}
use Rattle.pool.proofs.read_pool.Goals as goal
use Rattle.pool.proofs.read_pool.Goals.{then-behind_wide, else-behind_wide+in_ok-next}

cleared-length : (table before : List ℕ) → table ≡ replicate (length before) 0 → length table ≡ length before
cleared-length table before is = ap (λ (t : List ℕ). length t) is ∙ length-replicate {A = ℕ} (length before) 0

pub loop-number-init : goal.loop-number-init
loop-number-init c =
    let emptied : c.clear.new.table ≡ replicate (length c.args.table.now) 0 = c.clear.ensures in
    starts c.args.file.now c.args.count (length c.clear.new.table) c.clear.new.table
    (emptied ∙ ap (λ (room : ℕ). replicate room 0) (sym (cleared-length c.clear.new.table c.args.table.now emptied)))

pub shape_of-table-in_err-next : goal.shape_of-table-in_err-next
shape_of-table-in_err-next c =
    let before = c.args.table.now in
    c.loop-number.invariant.long ∙ cleared-length c.clear.new.table before c.clear.ensures

pub returns-in_err-next : goal.returns-in_err-next
returns-in_err-next c =
    let a = c.args in
    let l = c.loop-number in
    let room = length c.clear.new.table in
    let told = stops a.file.now a.count room l.table l.at l.number (a.count - l.number - 1)
    _ (sym c.read_entry.ensures ∙ c.in_err-next.was)
    (taken a.file.now a.count room l.table l.at l.number l.behind_wide false
    c.if-behind_wide.false (omega arith) l.invariant) in
    let same = cleared-length c.clear.new.table a.table.now c.clear.ensures in record { answers = passed_on c.from_residual.ensures.1 ∙ told.0; keeps = told.1 ∙ ap (λ (room : ℕ). placed room (places_in a.file.now a.count)) same }

pub loop-number-preserved : goal.loop-number-preserved
loop-number-preserved c =
    let a = c.args in
    let file = a.file.now in
    let room = length c.clear.new.table in
    let l = c.loop-number in
    let left = a.count - l.number - 1 in
    elim c.if-behind_wide.branch [
      | then-behind_wide w ↦
          goes_on file a.count room l.table c.if-behind_wide.table l.at c.if-behind_wide.at l.number false c.if-behind_wide.behind_wide
          w.table-is w.at-is w.behind_wide-is
          (passes_number file a.count room l.table l.at l.number left
          (taken file a.count room l.table l.at l.number l.behind_wide true w.if-behind_wide.true (omega arith) l.invariant))
      | else-behind_wide+in_ok-next w ↦
          goes_on file a.count room (set l.table l.number l.at) c.if-behind_wide.table w.in_ok-next.next c.if-behind_wide.at l.number
          (wide (byte_at file l.at)) c.if-behind_wide.behind_wide (w.table-is ∙ w.keep.ensures) w.at-is
          (w.behind_wide-is ∙ w.is_wide-behind_wide.ensures ∙ ap (λ (tag : ℕ). wide tag) w.byte_at.ensures)
          (reads_entry file a.count room l.table l.at l.number left w.in_ok-next.next
          (sym w.read_entry.ensures ∙ w.in_ok-next.was)
          (taken file a.count room l.table l.at l.number l.behind_wide false w.if-behind_wide.false (omega arith) l.invariant))
    ]

pub shape_of-table : goal.shape_of-table
shape_of-table c =
    let before = c.args.table.now in
    c.loop-number.invariant.long ∙ cleared-length c.clear.new.table before c.clear.ensures

pub returns : goal.returns
returns c =
    let a = c.args in
    let l = c.loop-number in
    let none : a.count - l.number ≡ 0 = omega arith in
    let told = ends a.file.now a.count (length c.clear.new.table) l.table l.at l.number l.behind_wide
    (rw none at l.invariant) in
    let same = cleared-length c.clear.new.table a.table.now c.clear.ensures in record { answers = told.0; keeps = told.1 ∙ ap (λ (room : ℕ). placed room (places_in a.file.now a.count)) same }
