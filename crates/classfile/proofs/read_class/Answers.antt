-- `classfile::read_class` meets its contract.
-- Assumes nothing.
use Rattle.std.specs.Prelude.{Ok}
use Prim.Native.Nat.{ℕ}
use mathlib.Core.Path.{◌∙◌, sym, ap}
use mathlib.Core.List.{List}
use lib.ListN.{length}
use Rattle.format.specs.Format.{read_by}
use Rattle.format.proofs.Items.{passed_on, told, was_read, then-read, then_wrong, all_done}
use Rattle.classformat.specs.ClassFile.{start_format, rest_format}
use Rattle.entries.specs.Entries.{names_by}
use Rattle.classfile.specs.Class.{start_place, methods_place, class_told, class_by}
use Rattle.classfile.specs.declared.StartPlace.{StartPlace}
use Rattle.classfile.specs.declared.MethodsPlace.{MethodsPlace}
use Rattle.classfile.specs.declared.ClassPlace.{ClassPlace}
use Rattle.classfile.proofs.Whole.{start_read, read_alike}
use Rattle.classfile.proofs.read_class.Goals as goal

abbrev class_at : StartPlace → MethodsPlace → ClassPlace
class_at start methods = record { major = start.major; from = methods.from; count = methods.count }

pub returns-in_err-start : goal.returns-in_err-start
unfolding class_by
returns-in_err-start c =
    let a = c.args in
    let file = a.file.now in
    let before = a.table.now in
    let after = c.read_start.new.table in
    let kept = c.read_start.ensures.keeps in
    let shows =
    passed_on c.from_residual.ensures.1
    ∙ told class_told (class_by file after) (then_wrong _ _ _ (sym c.read_start.ensures.answers ∙ c.in_err-start.was)) in record { shows = shows; keeps = kept; answers = λ room. shows ∙ ap (λ (t : List ℕ). class_told (read_by (class_by file t) file 0)) kept ∙ ap class_told (read_alike file before room) }

pub returns-in_err-methods : goal.returns-in_err-methods
unfolding class_by
returns-in_err-methods c =
    let a = c.args in
    let file = a.file.now in
    let before = a.table.now in
    let after = c.read_start.new.table in
    let kept = c.read_start.ensures.keeps in
    let s = start_read (read_by (start_format (length file)) file 0) (sym c.read_start.ensures.answers ∙ c.in_ok-start.was) in
    let shows =
    passed_on c.from_residual-in_err-methods.ensures.1
    ∙ told class_told (class_by file after) (then-read _ _ s.1 (then_wrong _ _ _ (sym c.read_rest.ensures ∙ c.in_err-methods.was))) in record { shows = shows; keeps = kept; answers = λ room. shows ∙ ap (λ (t : List ℕ). class_told (read_by (class_by file t) file 0)) kept ∙ ap class_told (read_alike file before room) }

pub returns : goal.returns
unfolding class_by
returns c =
    let a = c.args in
    let file = a.file.now in
    let before = a.table.now in
    let after = c.read_start.new.table in
    let kept = c.read_start.ensures.keeps in
    let start = c.in_ok-start.start in
    let s = start_read (read_by (start_format (length file)) file 0) (sym c.read_start.ensures.answers ∙ c.in_ok-start.was) in
    let m = was_read methods_place (read_by (rest_format (names_by file after) (length file)) file start.next) (sym c.read_rest.ensures ∙ c.in_ok-methods.was) in
    let shows =
    ap (λ (p : StartPlace). Ok (class_at p c.in_ok-methods.methods)) (sym s.2)
    ∙ ap (λ (p : MethodsPlace). Ok (class_at (start_place s.0 start.next) p)) (sym m.3)
    ∙ told class_told (class_by file after) (then-read _ _ s.1 (then-read _ _ m.2 all_done)) in record { shows = shows; keeps = kept; answers = λ room. shows ∙ ap (λ (t : List ℕ). class_told (read_by (class_by file t) file 0)) kept ∙ ap class_told (read_alike file before room) }
