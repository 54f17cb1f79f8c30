-- `classfile::read_start` meets its contract.
-- Assumes nothing.
use Prim.Native.Nat.{ℕ, ◌-◌, ◌≤◌, ◌<◌}
use native.Mathlib.Omega.{arith}
use mathlib.Core.Path.{refl, ◌∙◌, sym, ap, subst}
use mathlib.Core.Bool.{false}
use lib.ListN.{length}
use borrow.Author.Tests.{eq-eqb, ne_eqb, lt-ltb, le-ltb}
use Rattle.format.specs.Format.{read_by}
use Rattle.format.proofs.Items.{passed_on, told, item_cut, number_cut, number_bad, number_right, ended, then-read, then_wrong, all_done}
use Rattle.classformat.specs.ClassFile.{pool_format, start_format}
use Rattle.pool.specs.Pool.{places_in, placed}
use Rattle.classfile.specs.Class.{start_told}
use Rattle.classfile.proofs.Starting.{magic_is, minor_short, major_short, count_short, pool_at, long, count_is, left_short, left_strange, left_empty, filled}
use Rattle.classfile.proofs.read_start.Goals as goal

pub returns-in_default : goal.returns-in_default
unfolding start_format
returns-in_default c =
    let a = c.args in
    let file = a.file.now in
    let before = a.table.now in record { answers = told start_told (start_format (length file)) (number_cut (sym c.read_u4.ensures ∙ c.in_default.is)); keeps = left_short file before (omega (arith, item_cut 4 (length file) file 0 (sym c.read_u4.ensures ∙ c.in_default.is))) }

pub returns-in_default-read_u2 : goal.returns-in_default-read_u2
unfolding start_format
returns-in_default-read_u2 c =
    let a = c.args in
    let file = a.file.now in
    let before = a.table.now in
    let magic = sym c.read_u4.ensures ∙ c.in-Some.is in
    let rightly = eq-eqb c.in-Some.magic 0xcafebabe c.if-magic-eq-MAGIC.true in record { answers = told start_told (start_format (length file)) (number_right magic rightly (number_cut (sym c.read_u2.ensures ∙ c.in_default-read_u2.is))); keeps = left_short file before (minor_short file magic (sym c.read_u2.ensures ∙ c.in_default-read_u2.is)) }

pub returns-in_default-read_u2-2 : goal.returns-in_default-read_u2-2
unfolding start_format
returns-in_default-read_u2-2 c =
    let a = c.args in
    let file = a.file.now in
    let before = a.table.now in
    let magic = sym c.read_u4.ensures ∙ c.in-Some.is in
    let rightly = eq-eqb c.in-Some.magic 0xcafebabe c.if-magic-eq-MAGIC.true in
    let minor = sym c.read_u2.ensures ∙ c.in-Some-read_u2.is in record { answers = told start_told (start_format (length file)) (number_right magic rightly (number_right minor refl (number_cut (sym c.read_u2-then-magic-eq-MAGIC.ensures ∙ c.in_default-read_u2-2.is)))); keeps = left_short file before (major_short file magic minor (sym c.read_u2-then-magic-eq-MAGIC.ensures ∙ c.in_default-read_u2-2.is)) }

pub returns-in_default-read_u2-3 : goal.returns-in_default-read_u2-3
unfolding start_format
returns-in_default-read_u2-3 c =
    let a = c.args in
    let file = a.file.now in
    let before = a.table.now in
    let magic = sym c.read_u4.ensures ∙ c.in-Some.is in
    let rightly = eq-eqb c.in-Some.magic 0xcafebabe c.if-magic-eq-MAGIC.true in
    let minor = sym c.read_u2.ensures ∙ c.in-Some-read_u2.is in
    let major = sym c.read_u2-then-magic-eq-MAGIC.ensures ∙ c.in-Some-read_u2-2.is in record { answers = told start_told (start_format (length file)) (number_right magic rightly (number_right minor refl (number_right major refl (number_cut (sym c.read_u2-then-magic-eq-MAGIC-2.ensures ∙ c.in_default-read_u2-3.is))))); keeps = left_short file before (count_short file magic minor major (sym c.read_u2-then-magic-eq-MAGIC-2.ensures ∙ c.in_default-read_u2-3.is)) }

pub returns-then-count-gt0 : goal.returns-then-count-gt0
unfolding start_format
returns-then-count-gt0 c =
    let a = c.args in
    let file = a.file.now in
    let before = a.table.now in
    let magic = sym c.read_u4.ensures ∙ c.in-Some.is in
    let rightly = eq-eqb c.in-Some.magic 0xcafebabe c.if-magic-eq-MAGIC.true in
    let minor = sym c.read_u2.ensures ∙ c.in-Some-read_u2.is in
    let major = sym c.read_u2-then-magic-eq-MAGIC.ensures ∙ c.in-Some-read_u2-2.is in
    let count = sym c.read_u2-then-magic-eq-MAGIC-2.ensures ∙ c.in-Some-read_u2-3.is in
    let some = lt-ltb 0 c.in-Some-read_u2-3.count c.if-count-gt0.true in
    let place = pool_at file magic minor major count in
    let number = count_is file magic minor major count in
    let kept = c.read_pool.ensures.keeps ∙ ap (λ (n : ℕ). placed (length before) (places_in file n)) (sym number)
    ∙ filled file before (long file magic minor major count) (magic_is file magic ∙ c.if-magic-eq-MAGIC.true) (subst (λ (n : ℕ). 0 < n) (sym number) c.if-count-gt0.true) in
    let read = ended (read_by (pool_format (length file) (c.in-Some-read_u2-3.count - 1) false) file 10) (sym c.read_pool.ensures.answers ∙ c.in_ok-next.was) in record { answers = told start_told (start_format (length file)) (number_right magic rightly (number_right minor refl (number_right major refl (number_right count some (rw place (then-read _ _ read.1 all_done)))))); keeps = kept }

pub returns-in_err-next : goal.returns-in_err-next
unfolding start_format
returns-in_err-next c =
    let a = c.args in
    let file = a.file.now in
    let before = a.table.now in
    let magic = sym c.read_u4.ensures ∙ c.in-Some.is in
    let rightly = eq-eqb c.in-Some.magic 0xcafebabe c.if-magic-eq-MAGIC.true in
    let minor = sym c.read_u2.ensures ∙ c.in-Some-read_u2.is in
    let major = sym c.read_u2-then-magic-eq-MAGIC.ensures ∙ c.in-Some-read_u2-2.is in
    let count = sym c.read_u2-then-magic-eq-MAGIC-2.ensures ∙ c.in-Some-read_u2-3.is in
    let some = lt-ltb 0 c.in-Some-read_u2-3.count c.if-count-gt0.true in
    let place = pool_at file magic minor major count in
    let number = count_is file magic minor major count in
    let kept = c.read_pool.ensures.keeps ∙ ap (λ (n : ℕ). placed (length before) (places_in file n)) (sym number)
    ∙ filled file before (long file magic minor major count) (magic_is file magic ∙ c.if-magic-eq-MAGIC.true) (subst (λ (n : ℕ). 0 < n) (sym number) c.if-count-gt0.true) in record { answers = passed_on c.from_residual.ensures.1 ∙ told start_told (start_format (length file)) (number_right magic rightly (number_right minor refl (number_right major refl (number_right count some (rw place (then_wrong _ _ _ (sym c.read_pool.ensures.answers ∙ c.in_err-next.was))))))); keeps = kept }

pub returns-then-magic-eq-MAGIC : goal.returns-then-magic-eq-MAGIC
unfolding start_format
returns-then-magic-eq-MAGIC c =
    let a = c.args in
    let file = a.file.now in
    let before = a.table.now in
    let magic = sym c.read_u4.ensures ∙ c.in-Some.is in
    let rightly = eq-eqb c.in-Some.magic 0xcafebabe c.if-magic-eq-MAGIC.true in
    let minor = sym c.read_u2.ensures ∙ c.in-Some-read_u2.is in
    let major = sym c.read_u2-then-magic-eq-MAGIC.ensures ∙ c.in-Some-read_u2-2.is in
    let count = sym c.read_u2-then-magic-eq-MAGIC-2.ensures ∙ c.in-Some-read_u2-3.is in
    let none = le-ltb 0 c.in-Some-read_u2-3.count c.if-count-gt0.false in
    let number = count_is file magic minor major count in record { answers = told start_told (start_format (length file)) (number_right magic rightly (number_right minor refl (number_right major refl (number_bad count none)))); keeps = left_empty file before (subst (λ (n : ℕ). n ≤ 0) (sym number) c.if-count-gt0.false) }

pub returns : goal.returns
unfolding start_format
returns c =
    let a = c.args in
    let file = a.file.now in
    let before = a.table.now in
    let magic = sym c.read_u4.ensures ∙ c.in-Some.is in
    let strange = ne_eqb c.in-Some.magic 0xcafebabe c.if-magic-eq-MAGIC.false in record { answers = told start_told (start_format (length file)) (number_bad magic strange); keeps = left_strange file before (λ e. c.if-magic-eq-MAGIC.false (sym (magic_is file magic) ∙ e)) }
