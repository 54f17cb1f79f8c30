-- The rows of both models agree with JVMS, key by key: one test of a table that antt computes over all of them, and what it says.
-- Assumes nothing.
use Prim.Native.Nat.{ℕ, ◌+◌, ◌-◌, ◌<◌}
use native.Mathlib.Omega.{arith}
use mathlib.Core.Path.{◌≡◌, refl, ◌∙◌, sym, ap, subst}
use mathlib.Core.Bool.{Bool, true, false}
use mathlib.Core.Logic.{⊎_elim}
use mathlib.Core.List.Memᴰ
use mathlib.Core.List.{List, [], ◌∷◌, Memᴰ}
use lib.Dec.{T, eqb, ltb, eqb→eq, ltb→lt}
use borrow.Author.Tests.{lt-ltb, ltb-true, ltb-false}
use Rattle.basics.specs.Bytes.{byte_at, AreBytes}
use Rattle.basics.specs.Choice.{pick, both, alike, one_of, between}
use Rattle.basics.proofs.Choice.{chosen}
use Rattle.basics.proofs.Every.{both_first, both_second, alike_is, every, every_at}
use Rattle.jvms.specs.Extent.{takes, wide_extent, extent_by, extent_at}
use Rattle.jvms.specs.Format.{Format, tableswitch, lookupswitch, wide, reserved, format_of}
use Rattle.jvms.specs.Format.{fixed as fixed_format}
use Rattle.jvms.specs.Stack.{objectref, reference, Form, ◌⇒◌, Local, indexed, far, numbered, does, entry_of, key_at, key_count}
use Rattle.jvms.proofs.Keys.{Keyed, plain, behind_wide, keyed, key_plain, key_below}
use Rattle.jvms.proofs.Sizes.{reaches, far_extent}
use Rattle.fixed.specs.Fixed.{fixed_by, fixed_length, wide_by, key_length, size_at}
use Rattle.effects.specs.Agreement.{is_modelled, has_effect, within, FormAgrees, forms_of, has_form, local_of, Details, EffectAgrees}
use Rattle.effects.specs.Agreement.{Agreeing, ModelAgrees, Sized, ModelSized, documented, ModelsDocumented, added, widens, ModelsAdded, is_load, ModelsMark, ByOpcode}
use Rattle.effects.specs.Rows.{Row, unmodelled, opaque, aload, aload_far, aload_of, carries, keeps, gets, calls, puts, makes, or_row, row_of, added_row, widened_row, wide_row, full_row_of}
use Rattle.effects.specs.declared.Model.TheVariants.{Document, Full}
use Rattle.effects.proofs.Forms.{form_fits, form_agrees}

-- ---- a row and an opcode

abbrev each_fits : Row → List Form → Bool
each_fits row [] = true
each_fits row (f ∷ fs) = both (form_fits row f) (each_fits row fs)

each_agrees : (row : Row) (fs : List Form) → T (each_fits row fs) → (form : Form) → Memᴰ form fs → FormAgrees row form
each_agrees row [] t form m = absurd (Memᴰ.not-nil m)
each_agrees row (f ∷ fs) t form m =
    ⊎_elim
    (λ (e : form ≡ f). subst (λ (g : Form). FormAgrees row g) (sym e) (form_agrees row f (both_first (form_fits row f) _ t)))
    (λ (rest : Memᴰ form fs). each_agrees row fs (both_second (form_fits row f) _ t) form rest)
    (Memᴰ.cases_cons m)

abbrev is_indexed : List Local → Bool
is_indexed [] = false
is_indexed (indexed ∷ []) = true
is_indexed (indexed ∷ l ∷ ls) = false
is_indexed (far ∷ ls) = false
is_indexed (numbered n ∷ ls) = false

abbrev is_far : List Local → Bool
is_far [] = false
is_far (indexed ∷ ls) = false
is_far (far ∷ []) = true
is_far (far ∷ l ∷ ls) = false
is_far (numbered n ∷ ls) = false

abbrev is_numbered : ℕ → List Local → Bool
is_numbered local [] = false
is_numbered local (indexed ∷ ls) = false
is_numbered local (far ∷ ls) = false
is_numbered local (numbered n ∷ []) = both (eqb n local) (ltb local 256)
is_numbered local (numbered n ∷ l ∷ ls) = false

indexed_is : (ls : List Local) → T (is_indexed ls) → ls ≡ indexed ∷ []
indexed_is [] t = absurd t
indexed_is (indexed ∷ []) t = refl
indexed_is (indexed ∷ l ∷ ls) t = absurd t
indexed_is (far ∷ ls) t = absurd t
indexed_is (numbered n ∷ ls) t = absurd t

far_is : (ls : List Local) → T (is_far ls) → ls ≡ far ∷ []
far_is [] t = absurd t
far_is (indexed ∷ ls) t = absurd t
far_is (far ∷ []) t = refl
far_is (far ∷ l ∷ ls) t = absurd t
far_is (numbered n ∷ ls) t = absurd t

numbered_is : (local : ℕ) (ls : List Local) → T (is_numbered local ls) → (ls ≡ numbered local ∷ []) × (local < 256)
numbered_is local [] t = absurd t
numbered_is local (indexed ∷ ls) t = absurd t
numbered_is local (far ∷ ls) t = absurd t
numbered_is local (numbered n ∷ []) t = (
  ap (λ (k : ℕ). numbered k ∷ []) (eqb→eq n local (both_first (eqb n local) _ t)),
  ltb→lt local 256 (both_second (eqb n local) _ t),
)
numbered_is local (numbered n ∷ l ∷ ls) t = absurd t

abbrev details_fit : Row → ℕ → Bool
details_fit unmodelled op = true
details_fit (opaque taken given) op = true
details_fit aload op = is_indexed (local_of (entry_of op))
details_fit aload_far op = is_far (local_of (entry_of op))
details_fit (aload_of local) op = is_numbered local (local_of (entry_of op))
details_fit (carries taken places) op = within taken places
details_fit keeps op = true
details_fit (gets taken) op = between 178 181 op
details_fit (calls taken) op = between 182 185 op
details_fit (puts taken) op = between 178 181 op
details_fit makes op = eqb op 197

details_agree : (row : Row) (op : ℕ) → T (details_fit row op) → Details row op
details_agree unmodelled op t = tt
details_agree (opaque taken given) op t = tt
details_agree aload op t = indexed_is (local_of (entry_of op)) t
details_agree aload_far op t = far_is (local_of (entry_of op)) t
details_agree (aload_of local) op t = numbered_is local (local_of (entry_of op)) t
details_agree (carries taken places) op t = t
details_agree keeps op t = tt
details_agree (gets taken) op t = t
details_agree (calls taken) op t = t
details_agree (puts taken) op t = t
details_agree makes op t = t

abbrev effect_fits : Row → ℕ → Bool
effect_fits row op =
    both (has_form (forms_of (entry_of op))) (both (each_fits row (forms_of (entry_of op))) (details_fit row op))

effect_agrees : (row : Row) (op : ℕ) → T (effect_fits row op) → EffectAgrees op row
effect_agrees row op t =
    let forms : List Form = forms_of (entry_of op) in
    let t1 = both_second (has_form forms) _ t in
    record {
      some = both_first (has_form forms) _ t;
      each = each_agrees row forms (both_first (each_fits row forms) _ t1);
      details = details_agree row op (both_second (each_fits row forms) _ t1);
    }

-- ---- `checkcast`, and lengths

-- only the opcode of `checkcast` has its row
abbrev keeps_fits : Row → ℕ → Bool
keeps_fits unmodelled op = true
keeps_fits (opaque taken given) op = true
keeps_fits aload op = true
keeps_fits aload_far op = true
keeps_fits (aload_of local) op = true
keeps_fits (carries taken places) op = true
keeps_fits keeps op = eqb op 192
keeps_fits (gets taken) op = true
keeps_fits (calls taken) op = true
keeps_fits (puts taken) op = true
keeps_fits makes op = true

checkcast_is : (op : ℕ) → op ≡ 192 → entry_of op ≡ does (reference objectref ∷ [] ⇒ reference objectref ∷ [])
unfolding entry_of
checkcast_is op e = rw e

abbrev is_fixed : Format → Bool
is_fixed (fixed_format os) = true
is_fixed tableswitch = false
is_fixed lookupswitch = false
is_fixed wide = false
is_fixed reserved = false

fixed_extent : (f : Format) → T (is_fixed f) → (code : List ℕ) (pc : ℕ) → extent_by f code pc ≡ takes (fixed_by f)
fixed_extent (fixed_format os) t code pc = refl
fixed_extent tableswitch t code pc = absurd t
fixed_extent lookupswitch t code pc = absurd t
fixed_extent wide t code pc = absurd t
fixed_extent reserved t code pc = absurd t

fixed_some : (f : Format) → T (is_fixed f) → 0 < fixed_by f
fixed_some (fixed_format os) t = omega arith
fixed_some tableswitch t = absurd t
fixed_some lookupswitch t = absurd t
fixed_some wide t = absurd t
fixed_some reserved t = absurd t

-- ---- the test

-- a test that is made only where it is asked for
abbrev pub where_asked : Bool → Bool → Bool
where_asked true test = test
where_asked false test = true

pub asked : (b test : Bool) → T b → T (where_asked b test) → T test
asked true test s t = t
asked false test s t = absurd s

abbrev effect_test : Row → ℕ → Bool
effect_test row op = where_asked (has_effect row) (effect_fits row op)

-- an opcode of a fixed format, or behind `wide` one that JVMS lets it widen
abbrev size_fits : ℕ → Bool
size_fits key = pick (ltb key 256) (is_fixed (format_of key)) (reaches (wide_by (key - 256)) (wide_extent (key - 256)))

abbrev size_test : Row → ℕ → Bool
size_test row key = where_asked (is_modelled row) (size_fits key)

abbrev row_fits : Row → ℕ → Bool
row_fits row op = both (effect_test row op) (both (keeps_fits row op) (size_test row op))

-- such an instruction has the length of its key, and a byte at least
module _ (code : List ℕ) (are : AreBytes code) (pc : ℕ) where
  plain_extent : key_at code pc < 256 → T (is_fixed (format_of (key_at code pc))) → extent_at code pc ≡ takes (fixed_length (key_at code pc))
  unfolding extent_at fixed_length
  plain_extent small t =
      ap (λ (op : ℕ). extent_by (format_of op) code pc) (key_plain code pc small) ∙ fixed_extent (format_of (key_at code pc)) t code pc

  sized_extent : T (size_fits (key_at code pc)) → extent_at code pc ≡ takes (size_at code pc)
  sized_extent t = by_key (ltb (key_at code pc) 256) refl t
    where
      key : ℕ
      key = key_at code pc

      by_key :
          (b : Bool) → ltb (key_at code pc) 256 ≡ b →
          T (pick b (is_fixed (format_of key)) (reaches (wide_by (key - 256)) (wide_extent (key - 256)))) →
          extent_at code pc ≡ takes (pick b (fixed_length key) (wide_by (key - 256)))
      by_key true e t = plain_extent (ltb-true key 256 e) t
      by_key false e t = far_extent code pc are (wide_by (key - 256)) t (ltb-false key 256 e)

sized_some : (key : ℕ) → T (size_fits key) → 0 < key_length key
unfolding fixed_length
sized_some key t = by_key (ltb key 256) t
  where
    by_key :
        (b : Bool) → T (pick b (is_fixed (format_of key)) (reaches (wide_by (key - 256)) (wide_extent (key - 256)))) →
        0 < pick b (fixed_length key) (wide_by (key - 256))
    by_key true t = fixed_some (format_of key) t
    by_key false t = chosen (λ (n : ℕ). 0 < n) (eqb (key - 256) 132) 6 4 (omega arith) (omega arith)

-- a table that passes it agrees with JVMS, and its modelled instructions have a byte
module _ (rows : ℕ → Row) (passed : T (every (λ key. row_fits (rows key) key) key_count)) where
  at : (key : ℕ) → key < key_count → T (row_fits (rows key) key)
  at key below = every_at (λ k. row_fits (rows k) k) key_count passed key below

  later : (key : ℕ) → key < key_count → T (both (keeps_fits (rows key) key) (size_test (rows key) key))
  later key below = both_second (effect_test (rows key) key) _ (at key below)

  size-fits : (key : ℕ) → key < key_count → T (is_modelled (rows key)) → T (size_fits key)
  size-fits key below some =
      asked (is_modelled (rows key)) (size_fits key) some (both_second (keeps_fits (rows key) key) _ (later key below))

  pub passed_agrees : Agreeing rows
  passed_agrees =
      record {
        effect = λ key below some.
            effect_agrees (rows key) key
            (asked (has_effect (rows key)) (effect_fits (rows key) key) some
            (both_first (effect_test (rows key) key) _ (at key below)));
        kept = λ key below e.
            checkcast_is key
            (eqb→eq key 192
            (subst (λ (r : Row). T (keeps_fits r key)) e (both_first (keeps_fits (rows key) key) _ (later key below))));
        sized = λ code are pc some.
            sized_extent code are pc (size-fits (key_at code pc) (key_below code are pc) some);
      }

  pub passed_sized : Sized rows
  passed_sized key below some = sized_some key (size-fits key below some)

-- ---- both models

-- the full table passes
full_rows_fit : T (every (λ key. row_fits (full_row_of key) key) key_count)
unfolding row_of added_row widened_row full_row_of entry_of format_of
full_rows_fit = tt

-- and document 01's rows are of it

or_kept : (row other : Row) → T (is_modelled row) → or_row row other ≡ row
or_kept unmodelled other t = absurd t
or_kept (opaque taken given) other t = refl
or_kept aload other t = refl
or_kept aload_far other t = refl
or_kept (aload_of local) other t = refl
or_kept (carries taken places) other t = refl
or_kept keeps other t = refl
or_kept (gets taken) other t = refl
or_kept (calls taken) other t = refl
or_kept (puts taken) other t = refl
or_kept makes other t = refl

extended : (key : ℕ) → T (is_modelled (row_of key)) → full_row_of key ≡ row_of key
unfolding full_row_of
extended key t = or_kept (row_of key) (or_row (added_row key) (wide_row key)) t

effect_modelled : (row : Row) → T (has_effect row) → T (is_modelled row)
effect_modelled unmodelled t = absurd t
effect_modelled (opaque taken given) t = tt
effect_modelled aload t = tt
effect_modelled aload_far t = tt
effect_modelled (aload_of local) t = tt
effect_modelled (carries taken places) t = tt
effect_modelled keeps t = tt
effect_modelled (gets taken) t = tt
effect_modelled (calls taken) t = tt
effect_modelled (puts taken) t = tt
effect_modelled makes t = tt

full_agrees : Agreeing full_row_of
full_agrees = passed_agrees full_row_of full_rows_fit

pub model_agrees : ModelAgrees
model_agrees Full = full_agrees
model_agrees Document =
    record {
      effect = λ key below some.
          let same = extended key (effect_modelled (row_of key) some) in
          subst (EffectAgrees key) same (full_agrees.effect key below (subst (λ (r : Row). T (has_effect r)) (sym same) some));
      kept = λ key below e.
          full_agrees.kept key below (extended key (subst (λ (r : Row). T (is_modelled r)) (sym e) tt) ∙ e);
      sized = λ code are pc some.
          full_agrees.sized code are pc
          (subst (λ (r : Row). T (is_modelled r)) (sym (extended (key_at code pc) some)) some);
    }

pub model_sized : ModelSized
model_sized Full key below some = passed_sized full_row_of full_rows_fit key below some
model_sized Document key below some =
    passed_sized full_row_of full_rows_fit key below (subst (λ (r : Row). T (is_modelled r)) (sym (extended key some)) some)

-- document 01 models the opcodes that it lists, and no other
pub models_documented : ModelsDocumented
unfolding row_of
models_documented key below =
    alike_is (is_modelled (row_of key)) (documented key)
    (every_at (λ k. alike (is_modelled (row_of k)) (documented k)) key_count tt key below)

-- and the full model these and the ones that are added, alike where document 01 has a row
pub models_added : ModelsAdded
unfolding row_of added_row widened_row full_row_of
models_added =
    record {
      exactly = λ op below.
          alike_is (is_modelled (full_row_of op)) (pick (documented op) true (added op))
          (every_at (λ k. alike (is_modelled (full_row_of k)) (pick (documented k) true (added k))) 256 tt op below);
      wide = λ op below.
          alike_is (is_modelled (full_row_of (256 + op))) (widens op)
          (every_at (λ k. alike (is_modelled (full_row_of (256 + k))) (widens k)) 256 tt op below);
      extends = extended;
    }

-- aload's forms push loads, and nothing else does
pub models_mark : ModelsMark
unfolding row_of added_row widened_row full_row_of
models_mark =
    record {
      document = λ key below.
          alike_is (is_load (row_of key)) (one_of (25 ∷ 42 ∷ 43 ∷ 44 ∷ 45 ∷ []) key)
          (every_at (λ k. alike (is_load (row_of k)) (one_of (25 ∷ 42 ∷ 43 ∷ 44 ∷ 45 ∷ []) k)) key_count tt key below);
      full = λ key below.
          alike_is (is_load (full_row_of key)) (one_of (25 ∷ 42 ∷ 43 ∷ 44 ∷ 45 ∷ 281 ∷ []) key)
          (every_at (λ k. alike (is_load (full_row_of k)) (one_of (25 ∷ 42 ∷ 43 ∷ 44 ∷ 45 ∷ 281 ∷ []) k)) key_count tt key below);
    }

-- ---- document 01's model by the opcode alone

abbrev is_none : Row → Bool
is_none row = alike (is_modelled row) false

none_is : (row : Row) → T (is_none row) → row ≡ unmodelled
none_is unmodelled t = refl
none_is (opaque taken given) t = absurd t
none_is aload t = absurd t
none_is aload_far t = absurd t
none_is (aload_of local) t = absurd t
none_is (carries taken places) t = absurd t
none_is keeps t = absurd t
none_is (gets taken) t = absurd t
none_is (calls taken) t = absurd t
none_is (puts taken) t = absurd t
none_is makes t = absurd t

pub none_behind : (op : ℕ) → op < 256 → row_of (256 + op) ≡ unmodelled
unfolding row_of
none_behind op below = none_is (row_of (256 + op)) (every_at (λ k. is_none (row_of (256 + k))) 256 tt op below)

none_alone : row_of 196 ≡ unmodelled
unfolding row_of
none_alone = refl

pub by_opcode : ByOpcode
by_opcode code are pc = by_key (key_at code pc) (keyed code pc)
  where
    by_key :
        (key : ℕ) → Keyed code pc key →
        (row_of key ≡ row_of (byte_at code pc))
        × (T (is_modelled (row_of (byte_at code pc))) → key_length key ≡ fixed_length (byte_at code pc))
    by_key key plain = (refl, λ some. rw (lt-ltb (byte_at code pc) 256 (are pc)))
    by_key key (behind_wide e) =
        let none : row_of (byte_at code pc) ≡ unmodelled = ap row_of e ∙ none_alone in
        (none_behind (byte_at code (pc + 1)) (are (pc + 1)) ∙ sym none, λ some. absurd (rw none at some))
