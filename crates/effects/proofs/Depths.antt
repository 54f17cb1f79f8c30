-- Document 01's depths agree with JVMS, opcode by opcode: the slots above the operand that JVMS names objectref or arrayref.
-- One test over all opcodes.
-- Assumes nothing.
use Prim.Native.Nat.{ℕ}
use mathlib.Core.Path.{◌≡◌, refl}
use mathlib.Core.Bool.{Bool, false}
use mathlib.Core.List.{List, [], ◌∷◌}
use lib.Dec.{T}
use Rattle.basics.specs.Choice.{both}
use Rattle.basics.proofs.Every.{both_first, both_second, every_at}
use Rattle.jvms.specs.Machine.{is_reference}
use Rattle.jvms.specs.Stack.{Operand, slots_of, slots_in, name_of, entry_of, operands_of}
use Rattle.effects.specs.Agreement.{is_dereference, above_by, cites_member, DepthAgrees, DepthsAgree}
use Rattle.effects.specs.Depth.{Rule, rule_of}
use Rattle.effects.proofs.Rows.{where_asked, asked}
use Rattle.effects.proofs.Weights.{constant, operand_linear, operands_linear, above_linear, alike_for_five, alike_for_all}

abbrev single_fits : Operand → Bool
single_fits o = alike_for_five (λ c. slots_of c o) (λ c. 1)

abbrev above_fits : Rule → List Operand → Bool
above_fits rule os = alike_for_five (λ c. slots_in c os) (above_by rule)

abbrev operands_fit : Rule → List Operand → Bool
operands_fit rule [] = false
operands_fit rule (o ∷ os) = both (is_reference (name_of o)) (both (single_fits o) (above_fits rule os))

abbrev depth_fits : Rule → ℕ → Bool
depth_fits rule op = both (cites_member rule op) (operands_fit rule (operands_of (entry_of op)))

depth_agrees : (rule : Rule) (op : ℕ) → T (depth_fits rule op) → DepthAgrees op rule
depth_agrees rule op t =
    by_operands (operands_of (entry_of op)) refl (both_second (cites_member rule op) _ t)
  where
    by_operands : (os : List Operand) → operands_of (entry_of op) ≡ os → T (operands_fit rule os) → DepthAgrees op rule
    by_operands [] e u = absurd u
    by_operands (o ∷ os) e u =
        let u1 = both_second (is_reference (name_of o)) _ u in
        record {
          operand = o;
          above = os;
          listed = e;
          named = both_first (is_reference (name_of o)) _ u;
          single = alike_for_all _ _ (operand_linear o) (constant 1) (both_first (single_fits o) _ u1);
          weighs = alike_for_all _ _ (operands_linear os) (above_linear rule) (both_second (single_fits o) _ u1);
          cites = both_first (cites_member rule op) _ t;
        }

abbrev depth_test : ℕ → Bool
depth_test op = where_asked (is_dereference (rule_of op)) (depth_fits (rule_of op) op)

pub depths_agree : DepthsAgree
unfolding rule_of entry_of
depths_agree op below some =
    depth_agrees (rule_of op) op
    (asked (is_dereference (rule_of op)) (depth_fits (rule_of op) op) some (every_at depth_test 256 tt op below))
