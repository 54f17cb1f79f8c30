-- `fault::invoke_fault` meets its contract. One law for each way out; `<init>` is the name that is refused.
-- Assumes nothing.
use Prim.Native.Nat.{ℕ}
use native.Mathlib.Omega.{arith}
use mathlib.Core.List.{List}
use mathlib.Core.Path.{ap, sym, ◌∙◌}
use Rattle.basics.specs.Ascii.{ascii}
use Rattle.basics.specs.Choice.{same_list}
use Rattle.descriptor.specs.Readers.{parameters}
use Rattle.basics.proofs.Same.{same_told}
use Rattle.fault.proofs.Decode as decode
use Rattle.fault.proofs.invoke_fault.Goals as goal

pub returns-then-code-fault-lt3 : goal.returns-then-code-fault-lt3
returns-then-code-fault-lt3 c =
    let a = c.args in
    decode.invoke_cut a.code.now a.members.now a.count a.fault (omega arith)

pub returns-then-texts-eq0 : goal.returns-then-texts-eq0
returns-then-texts-eq0 c =
    let a = c.args in
    decode.invoke_missing a.code.now a.members.now a.count a.fault _ _ (omega arith)
    c.read_u16-index.ensures.0 c.find_member-texts.ensures c.if-texts-eq0.true

pub returns-then-same : goal.returns-then-same
returns-then-same c =
    let a = c.args in
    let s = c.same in
    decode.constructor a.code.now a.members.now a.count a.fault _ _ (omega arith)
    c.read_u16-index.ensures.0
    c.find_member-texts.ensures c.if-texts-eq0.false
    (ap (λ (l : List ℕ). same_list l (ascii "<init>")) (sym c.name_of.ensures)
    ∙ same_told s.result _ (ascii "<init>") s.ensures.0 s.ensures.1 ∙ c.if-same.true)

pub returns-in_default : goal.returns-in_default
returns-in_default c =
    let a = c.args in
    let s = c.same in
    decode.invoke_unread a.code.now a.members.now a.count a.fault _ _ (omega arith)
    c.read_u16-index.ensures.0 c.find_member-texts.ensures c.if-texts-eq0.false
    (ap (λ (l : List ℕ). same_list l (ascii "<init>")) (sym c.name_of.ensures)
    ∙ same_told s.result _ (ascii "<init>") s.ensures.0 s.ensures.1 ∙ c.if-same.false)
    (ap parameters (sym c.descriptor_of.ensures)
    ∙ sym c.parse_method_params.ensures ∙ c.in_default.is)

pub returns : goal.returns
returns c =
    let a = c.args in
    let s = c.same in
    decode.invokes_method a.code.now a.members.now a.count a.fault _ _ (omega arith)
    c.read_u16-index.ensures.0 c.find_member-texts.ensures c.if-texts-eq0.false
    (ap (λ (l : List ℕ). same_list l (ascii "<init>")) (sym c.name_of.ensures)
    ∙ same_told s.result _ (ascii "<init>") s.ensures.0 s.ensures.1 ∙ c.if-same.false) _
    (ap parameters (sym c.descriptor_of.ensures)
    ∙ sym c.parse_method_params.ensures ∙ c.in-Some.is)
