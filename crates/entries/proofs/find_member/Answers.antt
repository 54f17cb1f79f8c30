-- `entries::find_member` meets its contract.
-- Assumes nothing.
use Prim.Native.Nat.{ℕ}
use mathlib.Core.Path.{◌∙◌, sym}
use Rattle.classformat.specs.declared.Entry.{Entry}
use Rattle.entries.specs.Entries.{entry_by}
use Rattle.entries.proofs.Resolving.{without_member, without_class, without_pair, without_owner, without_name, without_descriptor, whole}
use Rattle.entries.proofs.find_member.Goals as goal

pub returns-in_default : goal.returns-in_default
returns-in_default c =
    let a = c.args in
    let entry : ℕ → Entry = entry_by a.file.now a.table.now in
    without_member entry a.index c.entry_at.result c.entry_at.ensures c.in_default.not-Member

pub returns-in_default-entry_at : goal.returns-in_default-entry_at
returns-in_default-entry_at c =
    let a = c.args in
    let entry : ℕ → Entry = entry_by a.file.now a.table.now in
    let member = sym c.entry_at.ensures ∙ c.in-Member.is in
    without_class entry a.index member c.entry_at-2.result c.entry_at-2.ensures c.in_default-entry_at.not-Class

pub returns-in_default-entry_at-2 : goal.returns-in_default-entry_at-2
returns-in_default-entry_at-2 c =
    let a = c.args in
    let entry : ℕ → Entry = entry_by a.file.now a.table.now in
    let member = sym c.entry_at.ensures ∙ c.in-Member.is in
    let owned = sym c.entry_at-2.ensures ∙ c.in-Class.is in
    without_pair entry a.index member owned c.entry_at-3.result c.entry_at-3.ensures c.in_default-entry_at-2.not-Named

pub returns-in_default-entry_at-3 : goal.returns-in_default-entry_at-3
returns-in_default-entry_at-3 c =
    let a = c.args in
    let entry : ℕ → Entry = entry_by a.file.now a.table.now in
    let member = sym c.entry_at.ensures ∙ c.in-Member.is in
    let owned = sym c.entry_at-2.ensures ∙ c.in-Class.is in
    let paired = sym c.entry_at-3.ensures ∙ c.in-Named.is in
    without_owner entry a.index member owned paired c.entry_at-4.result c.entry_at-4.ensures c.in_default-entry_at-3.not-Text

pub returns-in_default-entry_at-4 : goal.returns-in_default-entry_at-4
returns-in_default-entry_at-4 c =
    let a = c.args in
    let entry : ℕ → Entry = entry_by a.file.now a.table.now in
    let member = sym c.entry_at.ensures ∙ c.in-Member.is in
    let owned = sym c.entry_at-2.ensures ∙ c.in-Class.is in
    let paired = sym c.entry_at-3.ensures ∙ c.in-Named.is in
    let class-text = sym c.entry_at-4.ensures ∙ c.in-Text.is in
    without_name entry a.index member owned paired class-text c.entry_at-5.result c.entry_at-5.ensures c.in_default-entry_at-4.not-Text

pub returns-in_default-entry_at-5 : goal.returns-in_default-entry_at-5
returns-in_default-entry_at-5 c =
    let a = c.args in
    let entry : ℕ → Entry = entry_by a.file.now a.table.now in
    let member = sym c.entry_at.ensures ∙ c.in-Member.is in
    let owned = sym c.entry_at-2.ensures ∙ c.in-Class.is in
    let paired = sym c.entry_at-3.ensures ∙ c.in-Named.is in
    let class-text = sym c.entry_at-4.ensures ∙ c.in-Text.is in
    let name-text = sym c.entry_at-5.ensures ∙ c.in-Text-entry_at.is in
    without_descriptor entry a.index member owned paired class-text name-text c.entry_at-6.result c.entry_at-6.ensures c.in_default-entry_at-5.not-Text

pub returns : goal.returns
returns c =
    let a = c.args in
    let entry : ℕ → Entry = entry_by a.file.now a.table.now in
    let member = sym c.entry_at.ensures ∙ c.in-Member.is in
    let owned = sym c.entry_at-2.ensures ∙ c.in-Class.is in
    let paired = sym c.entry_at-3.ensures ∙ c.in-Named.is in
    let class-text = sym c.entry_at-4.ensures ∙ c.in-Text.is in
    let name-text = sym c.entry_at-5.ensures ∙ c.in-Text-entry_at.is in
    let descriptor-text = sym c.entry_at-6.ensures ∙ c.in-Text-entry_at-2.is in
    whole entry a.index member owned paired class-text name-text descriptor-text
