-- The slot under document 01's depth is the one that the instruction would dereference.
-- Assumes nothing.
use Prim.Native.Nat.{ℕ, ◌+◌, ◌-◌, ◌<◌}
use native.Mathlib.Omega.{arith}
use mathlib.Core.Path.{◌≡◌, refl, ◌∙◌, sym, ap, subst}
use mathlib.Core.Bool.{Bool, true, false}
use mathlib.Core.List.{List, [], ◌∷◌}
use lib.Dec.{T, ltb}
use lib.ListN.{length, get_or, take, drop}
use lib.Seq.{drop-cons}
use Rattle.basics.specs.Bytes.{byte_at, u16_at, AreBytes}
use Rattle.basics.specs.Choice.{pick}
use Rattle.jvms.specs.Machine.{Pool, cited_at, State, is_reference, topmost, dereferenced, target}
use Rattle.jvms.specs.Stack.{Operand, Cited, slots_of, slots_in, name_of}
use Rattle.jvms.proofs.Keys.{plain-key}
use Rattle.descriptor.specs.Readers.{field_slots}
use Rattle.effects.specs.Agreement.{is_dereference, above_by, cites_member}
use Rattle.effects.specs.Depth.{Rule, none, fixed, reads, writes, invokes, rule_of, Depth, nowhere, at, field_depth, call_depth, uncut, depth_by, depth_of}
use Rattle.effects.specs.Lookup.{Known, missing, known, Lookup}
use Rattle.effects.proofs.Depths.{depths_agree}
use Rattle.truth.specs.Condition.{Described}
use Rattle.truth.proofs.Reading.{field-slots, parameter_slots}

-- ---- the depth, with the descriptor read

no_depth : {P : Type 0} {depth : ℕ} → nowhere ≡ at depth → P
no_depth e = let z : ◌≡◌ {A = ℕ} 0 1 = cc in absurd (omega arith)

uncut_depth : (code : List ℕ) (last : ℕ) (x : Depth) (depth : ℕ) → uncut code last x ≡ at depth → x ≡ at depth
uncut_depth code last x depth e = by_test (ltb last (length code)) e
  where
    by_test : (b : Bool) → pick b x nowhere ≡ at depth → x ≡ at depth
    by_test true q = q
    by_test false q = no_depth q

module _ (lookup : Lookup) (pool : Pool) (code : List ℕ) (pc : ℕ) (told : Described lookup pool code pc) (depth : ℕ) where
  abbrev op : ℕ
  op = byte_at code pc

  abbrev cited : Cited
  cited = cited_at pool code pc

  abbrev index : ℕ
  index = u16_at code (pc + 1)

  read_depth : (k : Known) → field_depth k (λ d. 0) ≡ at depth → 0 ≡ depth
  read_depth missing e = no_depth e
  read_depth (known d) e = cc

  write_depth :
      T (cites_member writes op) → (k : Known) → lookup 0 index ≡ k → field_depth k field_slots ≡ at depth → cited.field ≡ depth
  write_depth t missing is e = no_depth e
  write_depth t (known d) is e =
      let same : field_slots d ≡ depth = cc in
      sym (field-slots lookup pool code pc told t d is) ∙ same

  call-depth : T (cites_member invokes op) → (k : Known) → lookup 1 index ≡ k → call_depth k ≡ at depth → cited.args ≡ depth
  call-depth t missing is e = no_depth e
  call-depth t (known d) is e =
      let q : at cited.args ≡ at depth = rw (parameter_slots lookup pool code pc told t d is) at e in
      cc

  -- slots above the operand, by the pool's trees
  pub record Deep (rule : Rule) : Type 0 where
    pub dereferences : T (is_dereference rule)
    pub above : above_by rule cited ≡ depth

  deep :
      (rule : Rule) → (T (is_dereference rule) → T (cites_member rule op)) → depth_by rule lookup code pc ≡ at depth → Deep rule
  deep none cites e = no_depth e
  deep (fixed n) cites e = record { dereferences = tt; above = cc }
  deep reads cites e =
      record {
        dereferences = tt;
        above = read_depth (lookup 0 index) (uncut_depth code (pc + 2) (field_depth (lookup 0 index) (λ d. 0)) depth e);
      }
  deep writes cites e =
      record {
        dereferences = tt;
        above = write_depth (cites tt) (lookup 0 index) refl
            (uncut_depth code (pc + 2) (field_depth (lookup 0 index) field_slots) depth e);
      }
  deep invokes cites e =
      record {
        dereferences = tt;
        above = call-depth (cites tt) (lookup 1 index) refl (uncut_depth code (pc + 2) (call_depth (lookup 1 index)) depth e);
      }

  pub deep_at : AreBytes code → depth_of lookup code pc ≡ at depth → Deep (rule_of op)
  unfolding depth_of
  deep_at bytes e =
      deep (rule_of op) (λ some. (depths_agree op (bytes pc) some).cites)
      (uncut_depth code pc (depth_by (rule_of op) lookup code pc) depth e)

-- ---- the operand

module _ {Val : Type 0} (stack : List Val) (absent : Val) where
  -- the value under so many others
  abbrev pub under : ℕ → Val
  under depth = get_or stack (length stack - 1 - depth) absent

  top_but : (depth : ℕ) → depth < length stack → take 1 (topmost (1 + depth) stack) ≡ under depth ∷ []
  top_but depth enough =
      let there : length stack - (1 + depth) ≡ length stack - 1 - depth = omega arith in
      rw there (ap (take 1) (drop-cons stack (length stack - 1 - depth) absent (omega arith)))

  -- the first operand is the one named
  first_operand :
      (cited : Cited) (o : Operand) (os : List Operand) (depth : ℕ) → T (is_reference (name_of o)) → slots_of cited o ≡ 1 →
      slots_in cited os ≡ depth → depth < length stack →
      dereferenced cited (o ∷ os) (topmost (slots_in cited (o ∷ os)) stack) ≡ under depth ∷ []
  first_operand cited o os depth named single weighs enough =
      by_name (is_reference (name_of o)) named
      (dereferenced cited os (drop (slots_of cited o) (topmost (slots_in cited (o ∷ os)) stack)))
    where
      by_name :
          (b : Bool) → T b → (others : List Val) →
          pick b (take (slots_of cited o) (topmost (slots_of cited o + slots_in cited os) stack)) others ≡ under depth ∷ []
      by_name true t others = rw (single, weighs) (top_but depth enough)
      by_name false t others = absurd t

-- `wide` dereferences nothing
not_wide : (op : ℕ) → T (is_dereference (rule_of op)) → op ≡ 196 → ⊥
unfolding rule_of
not_wide op t e = subst (λ (k : ℕ). T (is_dereference (rule_of k))) e t

pub very-slot :
    {Val : Type 0} (lookup : Lookup) (pool : Pool) (code : List ℕ) → AreBytes code → (st : State Val) →
    Described lookup pool code st.pc → (depth : ℕ) (absent : Val) → depth_of lookup code st.pc ≡ at depth →
    depth < length st.stack → target pool code st ≡ under st.stack absent depth ∷ []
unfolding target
very-slot lookup pool code bytes st told depth absent e enough =
    let op : ℕ = byte_at code st.pc in
    let cited : Cited = cited_at pool code st.pc in
    let deep = deep_at lookup pool code st.pc told depth bytes e in
    let agrees = depths_agree op (bytes st.pc) deep.dereferences in
    rw (plain-key code st.pc (not_wide op deep.dereferences), agrees.listed)
    (first_operand st.stack absent cited agrees.operand agrees.above depth agrees.named (agrees.single cited)
    (agrees.weighs cited ∙ deep.above) enough)
