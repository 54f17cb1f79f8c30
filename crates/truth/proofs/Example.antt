-- The worked block of each model meets the premises of condition 3, and its cause is named rightly.
-- Assumes nothing.
use Prim.Native.Nat.{ℕ, ◌+◌, ◌≤◌}
use native.Mathlib.Omega.{arith}
use mathlib.Core.Path.{◌≡◌, refl, ◌∙◌, sym, ap, subst}
use mathlib.Core.Bool.{Bool}
use mathlib.Core.List.{List, [], ◌∷◌}
use lib.Dec.{T, eqb, eqb→eq, lit<, lit≤}
use Rattle.basics.specs.Bytes.{byte_at, u16_at}
use Rattle.basics.specs.Choice.{between}
use Rattle.basics.proofs.Bytes.{all_below}
use Rattle.basics.proofs.Every.{every, every_at}
use Rattle.jvms.specs.Descriptor.{render, render_return, render_all, render_method, ClassName, WellFormed, WellFormedMethod}
use Rattle.jvms.specs.Format.{format_of}
use Rattle.bytecode.specs.Length.{wide_bytes, bytes_of, within, document_length, length_of}
use Rattle.fixed.specs.Fixed.{fixed_length}
use Rattle.greatest.specs.Greatest.{up_to, greatest}
use Rattle.leader.specs.Scan.{scan_from, instructions, scan_count, leaders_of, answered, block_leader, led_to}
use Rattle.branch.specs.Branch.{branch_of}
use Rattle.leader.specs.Targets.{leaders_at}
use Rattle.descriptor.specs.Readers.{slots_of, judged, parameters, closing, slots_behind, return_slots, field_slots}
use Rattle.bytesearch.specs.Search.{first_in, first_from, run}
use Rattle.fieldtype.specs.Types.{type_behind, field_type_at, type_slots, types_from, types_at, types_of}
use Rattle.number.specs.Number.{number_from, number_at}
use Rattle.items.specs.Text.{text_at, text_part, after_text, descriptor_of}
use Rattle.tables.specs.Layout.{run_by}
use Rattle.tables.specs.Member.{member_at}
use Rattle.lookup.specs.Lookup.{member_found}
use Rattle.effects.specs.Depth.{rule_of, depth_of, at}
use Rattle.effects.specs.Lookup.{lookup_in, known}
use Rattle.effects.specs.Rows.{row_of, added_row, widened_row, full_row_of}
use Rattle.effects.specs.declared.Model.TheVariants.{Full}
use Rattle.effects.proofs.Rows.{where_asked, asked}
use Rattle.walk.specs.Room.{completed_from, completed, fits, block_walk, block_walk_in, answer_of, cells_of}
use Rattle.walk.specs.Walk.{done, step, walk_from, walk}
use Rattle.truth.specs.Condition.{Described}
use Rattle.truth.specs.Example.{members, pool, worked, full_worked, far_worked, PremisesMet, NamedRightly, BeyondDocument}
use Rattle.truth.proofs.Cause.{cause_true}

-- ---- the members

-- (La)V;)J
abbrev method_text : List ℕ
method_text = 40 ∷ 76 ∷ 97 ∷ 41 ∷ 86 ∷ 59 ∷ 41 ∷ 74 ∷ []

field_known : lookup_in members 2 0 1 ≡ known (74 ∷ [])
unfolding lookup_in member_found member_at number_at number_from run_by text_at text_part after_text descriptor_of
field_known = refl

method_known : lookup_in members 2 1 2 ≡ known method_text
unfolding lookup_in member_found member_at number_at number_from run_by text_at text_part after_text descriptor_of
method_known = refl

abbrev FieldTold : ℕ → Type 0
FieldTold index =
    (d : List ℕ) → lookup_in members 2 0 index ≡ known d → (d ≡ render (pool.field index)) × WellFormed (pool.field index)

abbrev MethodTold : ℕ → Type 0
MethodTold index =
    (d : List ℕ) → lookup_in members 2 1 index ≡ known d →
    (d ≡ render_method (pool.method index)) × WellFormedMethod (pool.method index)

field_told : FieldTold 1
unfolding render
field_told d e =
    let same : known d ≡ known (74 ∷ []) = sym e ∙ field_known in
    (cc, record { named = tt; shallow = lit≤ tt })

method_told : MethodTold 2
unfolding render_method render_all render_return render
method_told d e =
    let same : known d ≡ known method_text = sym e ∙ method_known in
    let named : ClassName (97 ∷ 41 ∷ 86 ∷ []) = (λ x. omega (arith, x), (λ x. omega (arith, x), (λ x. omega (arith, x), tt))) in
    (cc, record { parameters = (record { named = named; shallow = lit≤ tt }, tt); result = record { named = tt; shallow = lit≤ tt } })

module _ (code : List ℕ) (fault : ℕ) where
  abbrev cites : ℕ → ℕ → Bool
  cites index k = eqb (u16_at code (k + 1)) index

  -- among the indexes up to the fault, the opcodes of a range cite one member only
  abbrev cites_only : ℕ → ℕ → ℕ → Bool
  cites_only low high index = every (λ k. where_asked (between low high (byte_at code k)) (cites index k)) (fault + 1)

  only_cited :
      (low high index : ℕ) → T (cites_only low high index) →
      (pc : ℕ) → pc ≤ fault → T (between low high (byte_at code pc)) → u16_at code (pc + 1) ≡ index
  only_cited low high index t pc below here =
      let test : ℕ → Bool = λ k. where_asked (between low high (byte_at code k)) (cites index k) in
      eqb→eq (u16_at code (pc + 1)) index
      (asked (between low high (byte_at code pc)) (cites index pc) here (every_at test (fault + 1) t pc (omega arith)))

  -- fields are cited by 1 and methods by 2
  described :
      T (cites_only 178 181 1) → T (cites_only 182 185 2) → (pc : ℕ) → pc ≤ fault → Described (lookup_in members 2) pool code pc
  described fields methods pc below =
      record {
        field = λ t. subst FieldTold (sym (only_cited 178 181 1 fields pc below t)) field_told;
        method = λ t. subst MethodTold (sym (only_cited 182 185 2 methods pc below t)) method_told;
      }

-- ---- document 01's model

leads : block_leader length_of [] worked.code 14 ≡ led_to 0 12
unfolding block_leader instructions scan_from scan_count leaders_of leaders_at branch_of answered greatest up_to length_of document_length within bytes_of format_of
leads = refl

walks : block_walk worked.code members 2 0 14 4 ≡ fits (done (1 ∷ 851970 ∷ []) 10)
unfolding block_walk_in completed completed_from walk walk_from step row_of fixed_length format_of u16_at lookup_in member_found member_at number_at number_from run_by text_at text_part after_text descriptor_of slots_of judged parameters closing slots_behind return_slots field_slots first_in first_from run type_behind field_type_at type_slots types_from types_at types_of
walks = refl

pub premises_met : PremisesMet worked
unfolding u16_at
premises_met =
    record {
      bytes = all_below 256 worked.code tt tt;
      scan = 12;
      measured = leads;
      inside = lit< tt;
      room = 4;
      walked = ap answer_of walks;
      left = sym (ap (cells_of 4) walks);
      described = λ pc here below. described worked.code 14 tt tt pc below;
    }

deep : depth_of (lookup_in members 2) worked.code 14 ≡ at 1
unfolding depth_of rule_of u16_at lookup_in member_found member_at number_at number_from run_by text_at text_part after_text descriptor_of slots_of judged parameters first_in first_from run type_behind field_type_at type_slots types_from types_at types_of
deep = refl

pub named_rightly : NamedRightly worked 0
named_rightly = cause_true worked pool premises_met 1 0 0 deep (lit< tt) (lit< tt) refl

-- ---- the full model

full_leads : block_leader length_of [] full_worked.code 11 ≡ led_to 0 11
unfolding block_leader instructions scan_from scan_count leaders_of leaders_at branch_of answered greatest up_to length_of document_length within bytes_of format_of
full_leads = refl

full_walks : block_walk_in Full full_worked.code members 2 0 11 6 ≡ fits (done (1 ∷ 0 ∷ 0 ∷ []) 9)
unfolding block_walk_in completed completed_from walk walk_from step row_of added_row widened_row full_row_of fixed_length format_of u16_at lookup_in member_found member_at number_at number_from run_by text_at text_part after_text descriptor_of field_slots run type_behind field_type_at type_slots
full_walks = refl

pub full_premises_met : PremisesMet full_worked
unfolding u16_at
full_premises_met =
    record {
      bytes = all_below 256 full_worked.code tt tt;
      scan = 11;
      measured = full_leads;
      inside = lit< tt;
      room = 6;
      walked = ap answer_of full_walks;
      left = sym (ap (cells_of 6) full_walks);
      described = λ pc here below. described full_worked.code 11 tt tt pc below;
    }

full_deep : depth_of (lookup_in members 2) full_worked.code 11 ≡ at 2
unfolding depth_of rule_of u16_at lookup_in member_found member_at number_at number_from run_by text_at text_part after_text descriptor_of field_slots run type_behind field_type_at type_slots
full_deep = refl

pub full_named_rightly : NamedRightly full_worked 0
full_named_rightly = cause_true full_worked pool full_premises_met 2 0 0 full_deep (lit< tt) (lit< tt) refl

pub beyond_document : BeyondDocument full_worked 6
unfolding block_walk_in completed completed_from walk walk_from step row_of fixed_length format_of u16_at
beyond_document = refl

-- ---- the full model, above local 255

far_leads : block_leader length_of [] far_worked.code 15 ≡ led_to 0 6
unfolding block_leader instructions scan_from scan_count leaders_of leaders_at branch_of answered greatest up_to length_of document_length within bytes_of wide_bytes format_of
far_leads = refl

far_walks : block_walk_in Full far_worked.code members 2 0 15 2 ≡ fits (done (301 ∷ []) 4)
unfolding block_walk_in completed completed_from walk walk_from step row_of added_row widened_row full_row_of fixed_length format_of u16_at
far_walks = refl

pub far_premises_met : PremisesMet far_worked
unfolding u16_at
far_premises_met =
    record {
      bytes = all_below 256 far_worked.code tt tt;
      scan = 6;
      measured = far_leads;
      inside = lit< tt;
      room = 2;
      walked = ap answer_of far_walks;
      left = sym (ap (cells_of 2) far_walks);
      described = λ pc here below. described far_worked.code 15 tt tt pc below;
    }

far_deep : depth_of (lookup_in members 2) far_worked.code 15 ≡ at 0
unfolding depth_of rule_of
far_deep = refl

pub far_named_rightly : NamedRightly far_worked 300
far_named_rightly = cause_true far_worked pool far_premises_met 0 0 300 far_deep (lit< tt) (lit< tt) refl

pub far_beyond_document : BeyondDocument far_worked 0
unfolding block_walk_in completed completed_from walk walk_from step row_of fixed_length format_of
far_beyond_document = refl
