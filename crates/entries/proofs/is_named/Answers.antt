-- `entries::is_named` meets its contract.
-- Assumes nothing.
use Prim.Native.Nat.{ℕ}
use mathlib.Core.List.{List}
use mathlib.Core.Path.{◌∙◌, sym, ap}
use Rattle.format.specs.Format.{bytes_at}
use Rattle.classformat.proofs.Unlike.{no-text}
use Rattle.classformat.specs.declared.Entry.{Entry}
use Rattle.classformat.specs.Contents.{Name, nameless, named, name_of, is_named}
use Rattle.basics.proofs.Same.{same_told}
use Rattle.basics.specs.Choice.{same_list}
use Rattle.entries.proofs.is_named.Goals as goal

pub returns-in_default : goal.returns-in_default
returns-in_default c =
    let e = c.entry_at in let a = c.args in sym (ap (λ (x : Entry). is_named a.wanted.now (name_of a.file.now x)) (sym e.ensures) ∙ ap (λ (n : Name). is_named a.wanted.now n) (no-text nameless (λ start size. named (bytes_at a.file.now start size)) e.result c.in_default.not-Text))

pub returns : goal.returns
returns c =
    let e = c.entry_at in let a = c.args in let s = c.same in sym (same_told s.result _ a.wanted.now s.ensures.0 s.ensures.1) ∙ ap (λ (l : List ℕ). same_list l a.wanted.now) c.part_at.ensures ∙ ap (λ (x : Entry). is_named a.wanted.now (name_of a.file.now x)) (sym c.in-Text.is ∙ e.ensures)
