-- `methodlist::put_method` meets its contract. Eight stores one behind the other write eight numbers.
-- Assumes nothing.
use Prim.Native.Nat.{ℕ}
use native.Mathlib.Omega.{arith}
use mathlib.Core.Path.{◌≡◌, ◌∙◌, ap}
use mathlib.Core.List.{List}
use lib.ListN.{length-set}
use Rattle.basics.specs.Parts.{overlaid}
use Rattle.entries.specs.Entries.{entry_by}
use Rattle.methodlist.specs.List.{text_place, eight, code_numbers, numbers_by}
use Rattle.methodlist.specs.declared.CodeNumbers.{CodeNumbers}
use Rattle.methodlist.specs.declared.TextPlace.{TextPlace}
use Rattle.methodlist.proofs.Filling.{set_eight}
use Rattle.methodlist.proofs.put_method.Goals as goal

pub bounds-numbers-k-2 : goal.bounds-numbers-k-2
bounds-numbers-k-2 c = simp length-set (omega arith)

pub bounds-numbers-k-3 : goal.bounds-numbers-k-3
bounds-numbers-k-3 c = simp length-set (omega arith)

pub bounds-numbers-k-4 : goal.bounds-numbers-k-4
bounds-numbers-k-4 c = simp length-set (omega arith)

pub bounds-numbers-k-5 : goal.bounds-numbers-k-5
bounds-numbers-k-5 c = simp length-set (omega arith)

pub bounds-numbers-k-6 : goal.bounds-numbers-k-6
bounds-numbers-k-6 c = simp length-set (omega arith)

pub bounds-numbers-k-7 : goal.bounds-numbers-k-7
bounds-numbers-k-7 c = simp length-set (omega arith)

pub bounds-numbers-k-8 : goal.bounds-numbers-k-8
bounds-numbers-k-8 c = simp length-set (omega arith)

pub shape_of-numbers : goal.shape_of-numbers
shape_of-numbers c = simp length-set

pub returns : goal.returns
returns c =
    let a = c.args in
    let file = a.file.now in
    let table = a.table.now in
    let m = a.method in
    let code = c.find_code-code in
    let name = c.find_text-name in
    let descriptor = c.find_text-descriptor in
    let same : eight m.flags code.result name.result descriptor.result ≡ numbers_by file table m =
    ap (λ (k : CodeNumbers). eight m.flags k name.result descriptor.result) code.ensures
    ∙ ap (λ (n : TextPlace). eight m.flags (code_numbers file table m.body) n descriptor.result) name.ensures
    ∙ ap (λ (d : TextPlace). eight m.flags (code_numbers file table m.body) (text_place (entry_by file table m.name)) d) descriptor.ensures in
    set_eight m.flags code.result.start code.result.size name.result.start name.result.size descriptor.result.start descriptor.result.size code.result.records a.numbers.now a.k c.requires.k_in_bounds
    ∙ ap (λ (w : List ℕ). overlaid a.k w a.numbers.now) same
