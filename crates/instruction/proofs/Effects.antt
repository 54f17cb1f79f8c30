-- What an effect is, by the tests that the code makes of its operands and its member.
-- Assumes nothing.
use Rattle.std.specs.Prelude.{Some, None}
use Prim.Native.Nat.{ℕ, ◌+◌, ◌≤◌, ◌<◌}
use native.Mathlib.Omega.{arith}
use mathlib.Core.Path.{◌≡◌, refl, ◌∙◌, sym, ap}
use mathlib.Core.Bool.{Bool, true, false}
use mathlib.Core.List.{List, []}
use lib.Dec.{ltb}
use lib.ListN.{length}
use borrow.Author.Tests.{lt-ltb, le-ltb, eq-eqb, ne_eqb}
use Rattle.basics.specs.Bytes.{byte_at, u16_at}
use Rattle.basics.specs.Choice.{pick}
use Rattle.descriptor.specs.Readers.{parameters, slots_behind, field_slots}
use Rattle.descriptor.specs.declared.Params.{Params}
use Rattle.descriptor.proofs.Return.{behind_end}
use Rattle.items.specs.Text.{descriptor_of}
use Rattle.index.specs.Index.{found_by}
use Rattle.effects.specs.Lookup.{Lookup, Known, missing, known, known_by}
use Rattle.effects.specs.Rows.{aload, aload_far, gets, calls, puts, makes}
use Rattle.effects.proofs.Known.{known_none, known_some}
use Rattle.walk.specs.Walk.{not_modelled, cut, blanks, load, Effect, fails, does, getting, putting, calling, effect_by}
use Rattle.instruction.specs.Code.{bare}
use Rattle.instruction.specs.Lookup.{lookup_by, cited_texts, slots_known, cited_slots}

-- ---- a load

module _ (code : List ℕ) (pc : ℕ) (lookup : Lookup) where
  pub load_cut : length code ≤ pc + 1 → fails not_modelled ≡ bare (effect_by lookup code pc aload)
  load_cut l = rw (le-ltb (pc + 1) (length code) l)

  pub loads : pc + 1 < length code → does 0 (load (byte_at code (pc + 1))) ≡ bare (effect_by lookup code pc aload)
  loads l = rw (lt-ltb (pc + 1) (length code) l)

-- of a local that two bytes behind a widened opcode name
module _ (code : List ℕ) (pc : ℕ) (lookup : Lookup) where
  pub far_cut : length code ≤ pc + 3 → fails not_modelled ≡ bare (effect_by lookup code pc aload_far)
  far_cut l = rw (le-ltb (pc + 3) (length code) l)

  pub loads_far :
      (local : ℕ) → local ≡ u16_at code (pc + 2) → pc + 3 < length code →
      does 0 (load local) ≡ bare (effect_by lookup code pc aload_far)
  loads_far local is l = rw (is, lt-ltb (pc + 3) (length code) l)

-- ---- arrays of so many dimensions

module _ (code : List ℕ) (pc : ℕ) (lookup : Lookup) where
  pub make_cut : length code ≤ pc + 3 → fails not_modelled ≡ bare (effect_by lookup code pc makes)
  make_cut l = rw (le-ltb (pc + 3) (length code) l)

  module _ (inside : pc + 3 < length code) where
    pub make_none : byte_at code (pc + 3) ≡ 0 → fails not_modelled ≡ bare (effect_by lookup code pc makes)
    make_none e = rw (lt-ltb (pc + 3) (length code) inside, eq-eqb (byte_at code (pc + 3)) 0 e)

    pub made :
        (byte_at code (pc + 3) ≡ 0 → ⊥) → does (byte_at code (pc + 3)) (blanks 1) ≡ bare (effect_by lookup code pc makes)
    made some = rw (lt-ltb (pc + 3) (length code) inside, ne_eqb (byte_at code (pc + 3)) 0 some)

-- ---- the member that is cited

module _ (members : List ℕ) (count : ℕ) (table code : List ℕ) (pc kind : ℕ) where
  pub cited_cut : length code ≤ pc + 2 → [] ≡ cited_texts members count table code pc kind
  cited_cut l = rw (le-ltb (pc + 2) (length code) l)

  pub cited :
      (index : ℕ) (texts : List ℕ) → pc + 2 < length code → index ≡ u16_at code (pc + 1) →
      texts ≡ found_by members count table index kind → texts ≡ cited_texts members count table code pc kind
  cited index texts l cites found = rw (lt-ltb (pc + 2) (length code) l, ← cites) found

-- an effect that goes by what is known of the member, where the code found no texts, or some
module _ (by : Known → Effect) (found texts : List ℕ) where
  none_known :
      (b : Bool) → texts ≡ pick b found [] → length texts ≡ 0 → fails not_modelled ≡ bare (by missing) →
      fails not_modelled ≡ bare (pick b (by (known_by found)) (fails cut))
  none_known true e none is = rw (← e, known_none texts none) is
  none_known false e none is = refl

  some_known :
      (b : Bool) (effect : Effect) → texts ≡ pick b found [] → (length texts ≡ 0 → ⊥) →
      effect ≡ bare (by (known (descriptor_of texts))) → effect ≡ bare (pick b (by (known_by found)) (fails cut))
  some_known true effect e some is = rw (← e, known_some texts some) is
  some_known false effect e some is = absurd (some (ap length e))

-- the slots of a cited field, where the code found no texts, or some
module _ (found texts : List ℕ) where
  no_slots :
      (b : Bool) → texts ≡ pick b found [] → length texts ≡ 0 → None ≡ pick b (slots_known (known_by found)) None
  no_slots true e none = rw (← e, known_none texts none)
  no_slots false e none = refl

  some_slots :
      (b : Bool) (slots : ℕ) → texts ≡ pick b found [] → (length texts ≡ 0 → ⊥) → slots ≡ field_slots (descriptor_of texts) →
      Some slots ≡ pick b (slots_known (known_by found)) None
  some_slots true slots e some is = rw (← e, known_some texts some) (ap Some is)
  some_slots false slots e some is = absurd (some (ap length e))

module _ (code : List ℕ) (pc : ℕ) (members : List ℕ) (count : ℕ) (table texts : List ℕ)
    (is : texts ≡ cited_texts members count table code pc 0) where
  pub cited_none : length texts ≡ 0 → None ≡ cited_slots (lookup_by members count table) code pc
  unfolding lookup_by
  cited_none none = no_slots _ texts (ltb (pc + 2) (length code)) is none

  pub cited_some :
      (slots : ℕ) → (length texts ≡ 0 → ⊥) → slots ≡ field_slots (descriptor_of texts) →
      Some slots ≡ cited_slots (lookup_by members count table) code pc
  unfolding lookup_by
  cited_some slots some e = some_slots _ texts (ltb (pc + 2) (length code)) slots is some e

-- ---- a field that is read or written: an effect that goes by its slots

module _ (by : Known → Effect) (of : ℕ → Effect) (none : fails not_modelled ≡ bare (by missing))
    (some : (descriptor : List ℕ) → by (known descriptor) ≡ of (field_slots descriptor)) where
  unread_so :
      (b : Bool) (k : Known) → pick b (slots_known k) None ≡ None → fails not_modelled ≡ bare (pick b (by k) (fails cut))
  unread_so true missing e = none
  unread_so true (known descriptor) e = let z : ◌≡◌ {A = ℕ} 0 1 = cc in absurd (omega arith)
  unread_so false k e = refl

  read_so :
      (b : Bool) (k : Known) (slots : ℕ) → pick b (slots_known k) None ≡ Some slots →
      bare (of slots) ≡ bare (pick b (by k) (fails cut))
  read_so true missing slots e = let z : ◌≡◌ {A = ℕ} 0 1 = cc in absurd (omega arith)
  read_so true (known descriptor) slots e =
      let same : slots ≡ field_slots descriptor = cc in
      ap bare (ap of same ∙ sym (some descriptor))
  read_so false k slots e = let z : ◌≡◌ {A = ℕ} 0 1 = cc in absurd (omega arith)

module _ (code : List ℕ) (pc : ℕ) (lookup : Lookup) (takes : ℕ) where
  pub get_none : cited_slots lookup code pc ≡ None → fails not_modelled ≡ bare (effect_by lookup code pc (gets takes))
  get_none =
      unread_so (getting takes) (λ n. does takes (blanks n)) refl (λ d. refl) (ltb (pc + 2) (length code))
      (lookup 0 (u16_at code (pc + 1)))

  pub got :
      (slots : ℕ) → cited_slots lookup code pc ≡ Some slots →
      does takes (blanks slots) ≡ bare (effect_by lookup code pc (gets takes))
  got =
      read_so (getting takes) (λ n. does takes (blanks n)) refl (λ d. refl) (ltb (pc + 2) (length code))
      (lookup 0 (u16_at code (pc + 1)))

  pub put_none : cited_slots lookup code pc ≡ None → fails not_modelled ≡ bare (effect_by lookup code pc (puts takes))
  put_none =
      unread_so (putting takes) (λ n. does (takes + n) (blanks 0)) refl (λ d. refl) (ltb (pc + 2) (length code))
      (lookup 0 (u16_at code (pc + 1)))

  pub put :
      (slots : ℕ) → cited_slots lookup code pc ≡ Some slots →
      does (takes + slots) (blanks 0) ≡ bare (effect_by lookup code pc (puts takes))
  put =
      read_so (putting takes) (λ n. does (takes + n) (blanks 0)) refl (λ d. refl) (ltb (pc + 2) (length code))
      (lookup 0 (u16_at code (pc + 1)))

-- ---- a call

module _ (code : List ℕ) (pc : ℕ) (members : List ℕ) (count : ℕ) (table : List ℕ) (takes : ℕ) (texts : List ℕ) where
  abbrev Calls : Effect → Type 0
  Calls effect = effect ≡ bare (effect_by (lookup_by members count table) code pc (calls takes))

  module _ (is : texts ≡ cited_texts members count table code pc 1) where
    pub call_none : length texts ≡ 0 → Calls (fails not_modelled)
    unfolding lookup_by
    call_none none = none_known (calling takes) _ texts (ltb (pc + 2) (length code)) is none refl

    module _ (some : length texts ≡ 0 → ⊥) where
      pub call_unread : parameters (descriptor_of texts) ≡ None → Calls (fails not_modelled)
      unfolding lookup_by
      call_unread e = some_known (calling takes) _ texts (ltb (pc + 2) (length code)) _ is some (rw e)

      pub call_endless :
          (p : Params) → parameters (descriptor_of texts) ≡ Some p →
          slots_behind (descriptor_of texts) (Some p.end) ≡ None → Calls (fails not_modelled)
      unfolding lookup_by
      call_endless p e r =
          some_known (calling takes) _ texts (ltb (pc + 2) (length code)) _ is some
          (rw (e, behind_end (descriptor_of texts) p e ∙ r))

      pub called :
          (p : Params) (gives : ℕ) → parameters (descriptor_of texts) ≡ Some p →
          slots_behind (descriptor_of texts) (Some p.end) ≡ Some gives → Calls (does (takes + p.slots) (blanks gives))
      unfolding lookup_by
      called p gives e r =
          some_known (calling takes) _ texts (ltb (pc + 2) (length code)) _ is some
          (rw (e, behind_end (descriptor_of texts) p e ∙ r))
