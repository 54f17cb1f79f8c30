-- An effect of the walk with its operands read: the slots of a cited descriptor that is well formed are those of its tree.
-- Assumes nothing.
use Rattle.std.specs.Prelude.{Some}
use Prim.Native.Nat.{ℕ, ◌+◌, ◌<◌}
use native.Mathlib.Omega.{arith}
use mathlib.Core.Path.{◌≡◌, refl, ◌∙◌, sym, ap, subst}
use mathlib.Core.Bool.{Bool, true, false}
use mathlib.Core.List.{List}
use lib.Dec.{T, eqb, leb, ltb, leb→le}
use lib.ListN.{length}
use Rattle.basics.specs.Bytes.{byte_at, u16_at}
use Rattle.basics.specs.Choice.{pick, between}
use Rattle.basics.proofs.Every.{both_second}
use Rattle.jvms.specs.Machine.{Pool, cited_at}
use Rattle.jvms.specs.Stack.{Cited, key_at}
use Rattle.jvms.proofs.Keys.{key_plain}
use Rattle.descriptor.specs.Readers.{parameters, return_slots, field_slots}
use Rattle.descriptors.specs.Lenient.{closing_at}
use Rattle.descriptors.proofs.Agree.{lenient_agrees}
use Rattle.effects.specs.Agreement.{taken_by, Details}
use Rattle.effects.specs.Lookup.{Known, missing, known, Lookup}
use Rattle.effects.specs.Rows.{Row, unmodelled, opaque, aload, aload_far, aload_of, carries, keeps, gets, calls, puts, makes}
use Rattle.walk.specs.Walk.{not_modelled, cut, Marks, Push, blanks, load, carried, unread, Effect, fails, does, getting, putting, making, calling, effect_by, made, applied}
use Rattle.truth.specs.Condition.{Described}
use Rattle.walk.proofs.Step.{refused_not_made}

-- what a row pushes
abbrev pub push_for : Pool → List ℕ → ℕ → Row → Push
push_for pool code pc unmodelled = unread not_modelled
push_for pool code pc (opaque taken given) = blanks given
push_for pool code pc aload = load (byte_at code (pc + 1))
push_for pool code pc aload_far = load (u16_at code (pc + 2))
push_for pool code pc (aload_of local) = load local
push_for pool code pc (carries taken places) = carried places
push_for pool code pc keeps = blanks 0
push_for pool code pc (gets taken) = blanks (cited_at pool code pc).field
push_for pool code pc (calls taken) = blanks (cited_at pool code pc).gives
push_for pool code pc (puts taken) = blanks 0
push_for pool code pc makes = blanks 1

module _ (lookup : Lookup) (pool : Pool) (code : List ℕ) (pc : ℕ) (told : Described lookup pool code pc) where
  abbrev cited : Cited
  cited = cited_at pool code pc

  abbrev index : ℕ
  index = u16_at code (pc + 1)

  -- a key that is an opcode is the byte there
  plainly : (a b : ℕ) → b < 256 → T (between a b (key_at code pc)) → T (between a b (byte_at code pc))
  plainly a b small t =
      let below = leb→le (key_at code pc) b (both_second (leb a (key_at code pc)) (leb (key_at code pc) b) t) in
      subst (λ (op : ℕ). T (between a b op)) (sym (key_plain code pc (omega (arith, below)))) t

  -- ---- descriptors

  pub field-slots :
      T (between 178 181 (byte_at code pc)) → (d : List ℕ) → lookup 0 index ≡ known d → field_slots d ≡ cited.field
  field-slots t d e =
      let well = told.field t d e in
      ap field_slots well.0 ∙ lenient_agrees.same_field (pool.field index) well.1

  pub parameter_slots :
      T (between 182 185 (byte_at code pc)) → (d : List ℕ) → lookup 1 index ≡ known d →
      parameters d ≡ Some (record { slots = cited.args; end = closing_at (pool.method index) })
  parameter_slots t d e =
      let well = told.method t d e in
      ap parameters well.0 ∙ lenient_agrees.same_slots (pool.method index) well.1

  return-slots :
      T (between 182 185 (byte_at code pc)) → (d : List ℕ) → lookup 1 index ≡ known d → return_slots d ≡ Some cited.gives
  return-slots t d e =
      let well = told.method t d e in
      ap return_slots well.0 ∙ lenient_agrees.same_return (pool.method index) well.1

  -- ---- effects

  module _ {A : Type 0} (marks : Marks A) (list slots : List A) where
    abbrev Makes : Effect → Type 0
    Makes effect = applied marks pc effect list ≡ made slots

    uncut_makes : (last : ℕ) (effect : Effect) → Makes (pick (ltb last (length code)) effect (fails cut)) → Makes effect
    uncut_makes last effect e = by_test (ltb last (length code)) e
      where
        by_test : (b : Bool) → Makes (pick b effect (fails cut)) → Makes effect
        by_test true q = q
        by_test false q = refused_not_made q

    getting_makes :
        (taken : ℕ) → T (between 178 181 (byte_at code pc)) → Makes (getting taken (lookup 0 index)) →
        Makes (does taken (blanks cited.field))
    getting_makes taken t e = by_known (lookup 0 index) refl e
      where
        by_known : (k : Known) → lookup 0 index ≡ k → Makes (getting taken k) → Makes (does taken (blanks cited.field))
        by_known missing h q = refused_not_made q
        by_known (known d) h q = rw (field-slots t d h) at q

    calling_makes :
        (taken : ℕ) → T (between 182 185 (byte_at code pc)) → Makes (calling taken (lookup 1 index)) →
        Makes (does (taken + cited.args) (blanks cited.gives))
    calling_makes taken t e = by_known (lookup 1 index) refl e
      where
        by_known :
            (k : Known) → lookup 1 index ≡ k → Makes (calling taken k) →
            Makes (does (taken + cited.args) (blanks cited.gives))
        by_known missing h q = refused_not_made q
        by_known (known d) h q = rw (parameter_slots t d h, return-slots t d h) at q

    putting_makes :
        (taken : ℕ) → T (between 178 181 (byte_at code pc)) → Makes (putting taken (lookup 0 index)) →
        Makes (does (taken + cited.field) (blanks 0))
    putting_makes taken t e = by_known (lookup 0 index) refl e
      where
        by_known :
            (k : Known) → lookup 0 index ≡ k → Makes (putting taken k) → Makes (does (taken + cited.field) (blanks 0))
        by_known missing h q = refused_not_made q
        by_known (known d) h q = rw (field-slots t d h) at q

    making_makes : (dimensions : ℕ) → Makes (making dimensions) → Makes (does dimensions (blanks 1))
    making_makes dimensions e = by_test (eqb dimensions 0) e
      where
        by_test :
            (none : Bool) → Makes (pick none (fails not_modelled) (does dimensions (blanks 1))) →
            Makes (does dimensions (blanks 1))
        by_test true q = refused_not_made q
        by_test false q = q

    -- the effect of a row that is completed
    pub effect_read :
        (row : Row) → Details row (key_at code pc) → Makes (effect_by lookup code pc row) →
        Makes (does (taken_by row cited) (push_for pool code pc row))
    effect_read unmodelled details e = refused_not_made e
    effect_read (opaque taken given) details e = e
    effect_read aload details e = uncut_makes (pc + 1) (does 0 (load (byte_at code (pc + 1)))) e
    effect_read aload_far details e = uncut_makes (pc + 3) (does 0 (load (u16_at code (pc + 2)))) e
    effect_read (aload_of local) details e = e
    effect_read (carries taken places) details e = e
    effect_read keeps details e = e
    effect_read (gets taken) details e =
        getting_makes taken (plainly 178 181 (omega arith) details) (uncut_makes (pc + 2) (getting taken (lookup 0 index)) e)
    effect_read (calls taken) details e =
        calling_makes taken (plainly 182 185 (omega arith) details) (uncut_makes (pc + 2) (calling taken (lookup 1 index)) e)
    effect_read (puts taken) details e =
        putting_makes taken (plainly 178 181 (omega arith) details) (uncut_makes (pc + 2) (putting taken (lookup 0 index)) e)
    effect_read makes details e =
        making_makes (byte_at code (pc + 3)) (uncut_makes (pc + 3) (making (byte_at code (pc + 3))) e)
