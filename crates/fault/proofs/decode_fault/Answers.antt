-- `fault::decode_fault` meets its contract. Each arm by its opcode; between the arms nothing is decoded.
-- Assumes nothing.
use Prim.Native.Nat.{ℕ}
use native.Mathlib.Omega.{arith}
use mathlib.Core.List.{List, [], ◌∷◌}
use mathlib.Core.Path.{refl, ◌∙◌}
use Rattle.basics.specs.Bytes.{byte_at}
use Rattle.effects.specs.Depth.{rule_of}
use Rattle.fault.specs.Decoding.{action_of}
use Rattle.fault.specs.Inside.{decoded_as}
use Rattle.basics.proofs.Keys.{every_unkeyed}
use Rattle.fault.proofs.Decode as decode
use Rattle.fault.proofs.decode_fault.Goals as goal

-- the keys of the arms, the last first
abbrev arms : List (List ℕ)
arms = (195 ∷ []) ∷ (194 ∷ []) ∷ (191 ∷ []) ∷ (190 ∷ []) ∷ (185 ∷ []) ∷ (181 ∷ []) ∷ (180 ∷ []) ∷ []

pub returns-then-code-fault : goal.returns-then-code-fault
returns-then-code-fault c =
    let a = c.args in
    decode.outside a.code.now a.members.now a.count a.fault c.if-code-fault.true

pub returns-in-180 : goal.returns-in-180
returns-in-180 c =
    let a = c.args in
    c.read_fault.ensures
    ∙ decode.inside a.code.now a.members.now a.count a.fault 180 (omega arith) c.in-180.is

pub returns-in-181 : goal.returns-in-181
returns-in-181 c =
    let a = c.args in
    c.assign_fault.ensures
    ∙ decode.inside a.code.now a.members.now a.count a.fault 181 (omega arith) c.in-181.is

pub returns-in-185 : goal.returns-in-185
returns-in-185 c =
    let a = c.args in
    let op : ℕ = byte_at a.code.now a.fault in
    c.invoke_fault.ensures
    ∙ decode.as_interface a.code.now a.members.now a.count a.fault op c.in-185.is
    ∙ decode.inside a.code.now a.members.now a.count a.fault op (omega arith) refl

pub returns-in-190 : goal.returns-in-190
unfolding decoded_as rule_of action_of
returns-in-190 c =
    let a = c.args in
    decode.inside a.code.now a.members.now a.count a.fault 190 (omega arith) c.in-190.is

pub returns-in-191 : goal.returns-in-191
unfolding decoded_as rule_of action_of
returns-in-191 c =
    let a = c.args in
    decode.inside a.code.now a.members.now a.count a.fault 191 (omega arith) c.in-191.is

pub returns-in-194 : goal.returns-in-194
unfolding decoded_as rule_of action_of
returns-in-194 c =
    let a = c.args in
    decode.inside a.code.now a.members.now a.count a.fault 194 (omega arith) c.in-194.is

pub returns-in-195 : goal.returns-in-195
unfolding decoded_as rule_of action_of
returns-in-195 c =
    let a = c.args in
    decode.inside a.code.now a.members.now a.count a.fault 195 (omega arith) c.in-195.is

pub returns-in-46-to-53 : goal.returns-in-46-to-53
returns-in-46-to-53 c =
    let a = c.args in
    let op : ℕ = byte_at a.code.now a.fault in
    c.load_fault.ensures
    ∙ decode.loads_array a.code.now a.members.now a.count a.fault op (omega arith) (omega arith)
    ∙ decode.inside a.code.now a.members.now a.count a.fault op (omega arith) refl

pub returns-in-79-to-86 : goal.returns-in-79-to-86
returns-in-79-to-86 c =
    let a = c.args in
    let op : ℕ = byte_at a.code.now a.fault in
    c.store_fault.ensures
    ∙ decode.stores_array a.code.now a.members.now a.count a.fault op (omega arith) (omega arith)
    ∙ decode.inside a.code.now a.members.now a.count a.fault op (omega arith) refl

pub returns-in-182-to-183 : goal.returns-in-182-to-183
returns-in-182-to-183 c =
    let a = c.args in
    let op : ℕ = byte_at a.code.now a.fault in
    let rest = c.in-182-to-183.in_default-own.rest in
    let behind = decode.behind_fields op c.in-182-to-183.if-op-lt180-own.false rest.0.0.0.0.0.0.1 rest.0.0.0.0.0.1 in
    c.invoke_fault-in-182-to-183.ensures
    ∙ decode.as_special a.code.now a.members.now a.count a.fault op behind c.in-182-to-183.if-op-lt184-own.true
    ∙ decode.inside a.code.now a.members.now a.count a.fault op (omega arith) refl

pub returns-in_default : goal.returns-in_default
unfolding rule_of
returns-in_default c =
    let a = c.args in
    let op : ℕ = byte_at a.code.now a.fault in
    decode.nothing_at a.code.now a.members.now a.count a.fault op
    (decode.none_so (rule_of op)
    (every_unkeyed (λ k. decode.is_none (rule_of k)) arms 0 46 tt op (omega arith) (omega arith) c.in_default.in_default-own.rest))
    ∙ decode.inside a.code.now a.members.now a.count a.fault op (omega arith) refl

pub returns-in_default-2 : goal.returns-in_default-2
unfolding rule_of
returns-in_default-2 c =
    let a = c.args in
    let op : ℕ = byte_at a.code.now a.fault in
    let rest = c.in_default.in_default-own.rest in
    decode.nothing_at a.code.now a.members.now a.count a.fault op
    (decode.none_so (rule_of op)
    (every_unkeyed (λ k. decode.is_none (rule_of k)) arms 54 25 tt op (omega arith) (omega arith) rest))
    ∙ decode.inside a.code.now a.members.now a.count a.fault op (omega arith) refl

pub returns-in_default-3 : goal.returns-in_default-3
unfolding rule_of
returns-in_default-3 c =
    let a = c.args in
    let op : ℕ = byte_at a.code.now a.fault in
    let rest = c.in_default.in_default-own.rest in
    decode.nothing_at a.code.now a.members.now a.count a.fault op
    (decode.none_so (rule_of op)
    (every_unkeyed (λ k. decode.is_none (rule_of k)) arms 87 95 tt op (omega arith) (omega arith) rest))
    ∙ decode.inside a.code.now a.members.now a.count a.fault op (omega arith) refl

pub returns-in_default-4 : goal.returns-in_default-4
unfolding rule_of
returns-in_default-4 c =
    let a = c.args in
    let op : ℕ = byte_at a.code.now a.fault in
    let byte = c.shared_slice_known-1.given in
    let rest = c.in_default.in_default-own.rest in
    decode.nothing_at a.code.now a.members.now a.count a.fault op
    (decode.none_so (rule_of op)
    (every_unkeyed (λ k. decode.is_none (rule_of k)) arms 184 72 tt op c.in_default.if-op-lt184-own.false (byte a.fault).fits rest))
    ∙ decode.inside a.code.now a.members.now a.count a.fault op (omega arith) refl
