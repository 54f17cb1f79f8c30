-- `localtables::records_at` meets its contract.
-- Assumes nothing.
use native.Mathlib.Omega.{arith}
use mathlib.Core.Path.{◌∙◌, sym, ap}
use mathlib.Core.List.{List}
use Rattle.format.specs.Format.{right}
use Rattle.classformat.specs.Contents.{Local}
use Rattle.classformat.specs.ClassFile.{local_format, local_table_format, code_attribute_format}
use Rattle.entries.specs.Entries.{names_by}
use Rattle.localtables.proofs.Behind.{judged, two_below, number_uncut, window_uncut, window_behind, passed_unwrong, passed_behind, no_times}
use Rattle.localtables.proofs.Walking.{table_behind, other_behind, table_filled}
use Rattle.localtables.proofs.records_at.Goals as goal

pub returns-in_default : goal.returns-in_default
unfolding code_attribute_format
returns-in_default c =
    let a = c.args in (
      omega arith,
      λ locals end is.
          let due = judged (code_attribute_format (names_by a.file.now a.table.now) a.limit) a.file.now a.at is in
          number_uncut due (sym c.read_u2.ensures ∙ c.in_default.is),
    )

pub returns-in_default-read_window : goal.returns-in_default-read_window
returns-in_default-read_window c =
    let a = c.args in (
      omega arith,
      λ locals end is.
          let due = judged (code_attribute_format (names_by a.file.now a.table.now) a.limit) a.file.now a.at is in
          let behind = table_behind (names_by a.file.now a.table.now) a.limit a.file.now a.at due (sym c.read_u2.ensures ∙ c.in-Some.is) (sym c.is_named.ensures ∙ c.if-is_named.true) in
          window_uncut behind (sym c.read_window.ensures ∙ c.in_default-read_window.is),
    )

pub returns-in_default-read_u2 : goal.returns-in_default-read_u2
unfolding local_table_format
returns-in_default-read_u2 c =
    let a = c.args in (
      omega arith,
      λ locals end is.
          let due = judged (code_attribute_format (names_by a.file.now a.table.now) a.limit) a.file.now a.at is in
          let behind = table_behind (names_by a.file.now a.table.now) a.limit a.file.now a.at due (sym c.read_u2.ensures ∙ c.in-Some.is) (sym c.is_named.ensures ∙ c.if-is_named.true) in
          number_uncut (window_behind behind (sym c.read_window.ensures ∙ c.in-Some-read_window.is)) (sym c.read_u2-then-is_named.ensures ∙ c.in_default-read_u2.is),
    )

pub returns-then-is_named : goal.returns-then-is_named
returns-then-is_named c =
    let a = c.args in
    let counted = sym c.read_u2-then-is_named.ensures ∙ c.in-Some-read_u2.is in (
      two_below c.in-Some-read_window.stop a.file.now c.in-Some-read_window.start (λ i. (c.type_inv.file i).fits) counted,
      λ locals end is.
          let due = judged (code_attribute_format (names_by a.file.now a.table.now) a.limit) a.file.now a.at is in
          let behind = table_behind (names_by a.file.now a.table.now) a.limit a.file.now a.at due (sym c.read_u2.ensures ∙ c.in-Some.is) (sym c.is_named.ensures ∙ c.if-is_named.true) in
          table_filled (names_by a.file.now a.table.now) c.in-Some-read_window.stop a.file.now c.in-Some-read_window.start (window_behind behind (sym c.read_window.ensures ∙ c.in-Some-read_window.is)) counted,
    )

pub returns-in_default-pass_over : goal.returns-in_default-pass_over
returns-in_default-pass_over c =
    let a = c.args in (
      omega arith,
      λ locals end is.
          let due = judged (code_attribute_format (names_by a.file.now a.table.now) a.limit) a.file.now a.at is in
          let behind = other_behind (names_by a.file.now a.table.now) a.limit a.file.now a.at due (sym c.read_u2.ensures ∙ c.in-Some.is) (sym c.is_named.ensures ∙ c.if-is_named.false) in
          passed_unwrong behind (sym c.pass_over.ensures ∙ c.in_default-pass_over.is),
    )

pub returns : goal.returns
returns c =
    let a = c.args in (
      omega arith,
      λ locals end is.
          let due = judged (code_attribute_format (names_by a.file.now a.table.now) a.limit) a.file.now a.at is in
          let behind = other_behind (names_by a.file.now a.table.now) a.limit a.file.now a.at due (sym c.read_u2.ensures ∙ c.in-Some.is) (sym c.is_named.ensures ∙ c.if-is_named.false) in
          let stop = c.in-Ok.stop in
          let passed = passed_behind behind (sym c.pass_over.ensures ∙ c.in-Ok.is) in
          (passed.1, no_times (local_format (names_by a.file.now a.table.now) stop) a.file.now stop ∙ ap (λ (ls : List Local). right ls stop) passed.0 ∙ ap (right locals) passed.1),
    )
