-- `attributes::pass_over` meets its contract.
-- Assumes nothing.
use mathlib.Core.Path.{refl, ◌∙◌, sym}
use Rattle.format.specs.Items.{run_of}
use Rattle.format.proofs.Items.{told, text_cut, text_right, all_done}
use Rattle.classformat.specs.ClassFile.{passed_over}
use Rattle.attributes.proofs.pass_over.Goals as goal

pub returns-in_default : goal.returns-in_default
returns-in_default c = told run_of (passed_over c.args.limit (tt {0})) (text_cut (sym c.read_window.ensures ∙ c.in_default.is))

pub returns : goal.returns
returns c = told run_of (passed_over c.args.limit (tt {0})) (text_right (sym c.read_window.ensures ∙ c.in-Some.is) refl all_done)
