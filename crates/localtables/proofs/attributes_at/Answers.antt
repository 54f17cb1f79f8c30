-- `localtables::attributes_at` meets its contract. The tables are judged first, so that what is read again is right.
-- Assumes nothing.
use native.Mathlib.Omega.{arith}
use mathlib.Core.Path.{◌∙◌, sym, ap}
use mathlib.Core.List.{[]}
use Rattle.format.specs.Format.{read_by}
use Rattle.format.proofs.Items.{failed}
use Rattle.classformat.specs.ClassFile.{joined, code_attribute_format, code_end_format, code_tables_format}
use Rattle.entries.specs.Entries.{names_by}
use Rattle.localtables.specs.Locals.{locals_of}
use Rattle.localtables.proofs.Behind.{two_below, run_right, number_uncut, number_behind, then_unwrong, no_times}
use Rattle.localtables.proofs.Walking.{tables_joined, tables_behind}
use Rattle.localtables.proofs.attributes_at.Goals as goal

pub returns-in_default : goal.returns-in_default
unfolding joined
returns-in_default c =
    let a = c.args in (
      [],
      a.at,
      no_times (code_attribute_format (names_by a.file.now a.table.now) a.limit) a.file.now a.at,
      ap locals_of (failed _ (read_by (code_tables_format (names_by a.file.now a.table.now) a.limit) a.file.now a.at) (sym c.read_tables.ensures ∙ c.in_default.is)),
      omega arith,
    )

pub returns-in_default-read_u2 : goal.returns-in_default-read_u2
unfolding code_tables_format
returns-in_default-read_u2 c =
    let a = c.args in
    let tables = run_right (code_tables_format (names_by a.file.now a.table.now) a.limit) a.file.now a.at (sym c.read_tables.ensures ∙ c.in-Ok.is) in
    number_uncut tables.1 (sym c.read_u2.ensures ∙ c.in_default-read_u2.is)

pub returns-in_default-read_handlers : goal.returns-in_default-read_handlers
unfolding code_tables_format
returns-in_default-read_handlers c =
    let a = c.args in
    let tables = run_right (code_tables_format (names_by a.file.now a.table.now) a.limit) a.file.now a.at (sym c.read_tables.ensures ∙ c.in-Ok.is) in
    then_unwrong _ _ (number_behind tables.1 (sym c.read_u2.ensures ∙ c.in-Some.is)) (sym c.read_handlers.ensures ∙ c.in_default-read_handlers.is)

pub returns-in_default-read_u2-2 : goal.returns-in_default-read_u2-2
unfolding code_end_format
returns-in_default-read_u2-2 c =
    let a = c.args in
    let tables = run_right (code_tables_format (names_by a.file.now a.table.now) a.limit) a.file.now a.at (sym c.read_tables.ensures ∙ c.in-Ok.is) in
    let behind = tables_behind (names_by a.file.now a.table.now) a.limit a.file.now a.at tables.1 (sym c.read_u2.ensures ∙ c.in-Some.is) (sym c.read_handlers.ensures ∙ c.in-Ok-read_handlers.is) in
    number_uncut behind.1 (sym c.read_u2-2.ensures ∙ c.in_default-read_u2-2.is)

pub returns : goal.returns
returns c =
    let a = c.args in
    let tables = run_right (code_tables_format (names_by a.file.now a.table.now) a.limit) a.file.now a.at (sym c.read_tables.ensures ∙ c.in-Ok.is) in
    let behind = tables_behind (names_by a.file.now a.table.now) a.limit a.file.now a.at tables.1 (sym c.read_u2.ensures ∙ c.in-Some.is) (sym c.read_handlers.ensures ∙ c.in-Ok-read_handlers.is) in
    let counted = sym c.read_u2-2.ensures ∙ c.in-Some-read_u2.is in
    let all = tables_joined (names_by a.file.now a.table.now) a.limit a.file.now c.in-Ok-read_handlers.count_at behind.1 counted in (
      all.0,
      all.1,
      all.2,
      ap locals_of tables.1.was ∙ all.3,
      two_below a.limit a.file.now c.in-Ok-read_handlers.count_at (λ i. (c.type_inv.file i).fits) counted,
    )
