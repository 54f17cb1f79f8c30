-- `pool::read_entry` meets its contract.
-- Assumes nothing.
use Prim.Native.Nat.{ℕ, ◌+◌, ◌<◌}
use native.Mathlib.Omega.{arith}
use mathlib.Core.Path.{◌≡◌, ◌∙◌, sym, ap}
use lib.ListN.{length}
use borrow.Author.Tests.{ne_eqb}
use Rattle.basics.specs.Bytes.{byte_at}
use Rattle.format.specs.Format.{read_by}
use Rattle.format.specs.Items.{run_of}
use Rattle.classformat.specs.ClassFile.{entry_format}
use Rattle.pool.specs.Pool.{first_width, passed_by}
use Rattle.pool.proofs.Tags.{behind_tag}
use Rattle.pool.proofs.Entries.{cut_tag, bad_tag, good_tag}
use Rattle.pool.proofs.read_entry.Goals as goal

pub returns-then-file-at : goal.returns-then-file-at
returns-then-file-at c =
    let a = c.args in
    let file = a.file.now in
    sym (ap run_of (cut_tag file (length file) a.at a.left (omega arith)))

pub returns-then-tag-eq1 : goal.returns-then-tag-eq1
returns-then-tag-eq1 c =
    let a = c.args in
    let file = a.file.now in
    let right = sym c.is_right_tag.ensures ∙ c.if-is_right_tag.true in
    let utf8 : byte_at file a.at ≡ 1 = c.if-tag-eq1.true in
    c.read_text.ensures ∙ ap (λ (tag : ℕ). run_of (read_by (entry_format (length file) tag) file (a.at + 1))) (sym utf8)
    ∙ sym (ap run_of (good_tag file (length file) a.at a.left (omega arith) right))

pub returns-then-is_right_tag : goal.returns-then-is_right_tag
returns-then-is_right_tag c =
    let a = c.args in
    let file = a.file.now in
    let tag = byte_at file a.at in
    let right = sym c.is_right_tag.ensures ∙ c.if-is_right_tag.true in
    let byte : tag < 256 = omega (arith, c.type_inv.file a.at) in
    c.pass_numbers.ensures
    ∙ ap (λ (w : ℕ). passed_by (length file) (a.at + 1) w c.second_width.result) c.first_width.ensures
    ∙ ap (λ (w : ℕ). passed_by (length file) (a.at + 1) (first_width tag) w) c.second_width.ensures
    ∙ sym (behind_tag (length file) file (a.at + 1) a.left tag byte right (ne_eqb tag 1 c.if-tag-eq1.false))
    ∙ sym (ap run_of (good_tag file (length file) a.at a.left (omega arith) right))

pub returns : goal.returns
returns c =
    let a = c.args in
    let file = a.file.now in
    sym (ap run_of
    (bad_tag file (length file) a.at a.left (omega arith) (sym c.is_right_tag.ensures ∙ c.if-is_right_tag.false)))
