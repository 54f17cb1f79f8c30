-- `methodlist::find_text` meets its contract.
-- Assumes nothing.
use mathlib.Core.Path.{◌≡◌, ◌∙◌, sym, ap}
use Rattle.classformat.proofs.Unlike.{no-text}
use Rattle.methodlist.specs.List.{text_start, text_size, text_place}
use Rattle.methodlist.proofs.find_text.Goals as goal

pub returns-in-Text : goal.returns-in-Text
returns-in-Text c = ap text_place (sym c.in-Text.is ∙ c.entry_at.ensures)

pub returns-in_default : goal.returns-in_default
returns-in_default c =
    let e = c.entry_at in
    let start : text_start e.result ≡ 0 = no-text 0 (λ start size. start) e.result c.in_default.not-Text in
    let size : text_size e.result ≡ 0 = no-text 0 (λ start size. size) e.result c.in_default.not-Text in
    let none : text_place e.result ≡ record { start = 0; size = 0 } = rw (start, size) in
    sym none ∙ ap text_place e.ensures
