-- What the faulting instruction decodes to, by the tests that the code makes.
-- Assumes nothing.
use Rattle.std.specs.Prelude.{Option, Some, None}
use Prim.Native.Nat.{ℕ, ◌+◌, ◌-◌, ◌≤◌, ◌<◌}
use native.Mathlib.Nat.{eq-or-lt_of_le}
use native.Mathlib.Omega.{arith}
use mathlib.Core.Bool.{Bool, true, false}
use mathlib.Core.List.{List, [], ◌∷◌}
use mathlib.Core.Logic.{⊎_elim}
use mathlib.Core.Path.{◌≡◌, refl}
use lib.Dec.{T}
use lib.ListN.{length}
use borrow.Author.Tests.{lt-ltb, le-ltb, ne_eqb, le-leb, lt-leb}
use Rattle.basics.specs.Ascii.{ascii}
use Rattle.basics.specs.Bytes.{byte_at, u16_at}
use Rattle.basics.specs.Choice.{pick, both, one_of, same_list}
use Rattle.items.specs.Text.{name_of, descriptor_of}
use Rattle.lookup.specs.Lookup.{member_found}
use Rattle.descriptor.specs.Readers.{parameters, field_slots}
use Rattle.descriptor.specs.declared.Params.{Params}
use Rattle.effects.specs.Depth.{Rule, none, fixed, reads, writes, invokes as invokes_rule, rule_of, depth_by, depth_of}
use Rattle.effects.specs.Lookup.{lookup_in}
use Rattle.fault.specs.Decoding.{invokes, action_of, constructs, failed_at, decoded, faulted}
use Rattle.fault.specs.Inside.{decoded_as}
use Rattle.fault.specs.declared.Fault.{Fault}
use Rattle.fault.specs.declared.Action.TheVariants.{ReadField, AssignField, Invoke, LoadArray, StoreArray}
use Rattle.effects.proofs.Known.{known_none, known_some}

either : (b : Bool) → ◌≡◌ {A = Option Fault} None (pick b None None)
either true = refl
either false = refl

module _ (code members : List ℕ) (count fault : ℕ) where
  pub outside : length code ≤ fault → None ≡ decoded code members count fault
  unfolding decoded depth_of
  outside l =
      rw (le-ltb fault (length code) l)
      (either (both (invokes (byte_at code fault)) (constructs members count (u16_at code (fault + 1)))))

  pub inside :
      (op : ℕ) → fault < length code → byte_at code fault ≡ op →
      decoded_as op code members count fault ≡ decoded code members count fault
  unfolding decoded decoded_as depth_of
  inside op l e = rw (lt-ltb fault (length code) l, e)

  -- ---- members: texts is the part that the lookup hands back

  pub read_cut : length code ≤ fault + 2 → None ≡ decoded_as 180 code members count fault
  unfolding decoded_as rule_of action_of
  read_cut l = rw (le-ltb (fault + 2) (length code) l)

  pub assign_cut : length code ≤ fault + 2 → None ≡ decoded_as 181 code members count fault
  unfolding decoded_as rule_of action_of
  assign_cut l = rw (le-ltb (fault + 2) (length code) l)

  pub invoke_cut : length code ≤ fault + 2 → None ≡ decoded_as 182 code members count fault
  unfolding decoded_as rule_of action_of
  invoke_cut l = rw (le-ltb (fault + 2) (length code) l) (either (constructs members count (u16_at code (fault + 1))))

  module _ (index : ℕ) (texts : List ℕ) (whole : fault + 2 < length code) (cites : index ≡ u16_at code (fault + 1)) where
    module _ (found : texts ≡ member_found members index 0 count 0 0) where
      pub read_missing : length texts ≡ 0 → None ≡ decoded_as 180 code members count fault
      unfolding decoded_as rule_of action_of lookup_in
      read_missing empty = rw (lt-ltb (fault + 2) (length code) whole, ← cites, ← found, known_none texts empty)

      pub reads_field : (length texts ≡ 0 → ⊥) → faulted (ReadField index) 0 ≡ decoded_as 180 code members count fault
      unfolding decoded_as rule_of action_of lookup_in
      reads_field some = rw (lt-ltb (fault + 2) (length code) whole, ← cites, ← found, known_some texts some)

      pub assign_missing : length texts ≡ 0 → None ≡ decoded_as 181 code members count fault
      unfolding decoded_as rule_of action_of lookup_in
      assign_missing empty = rw (lt-ltb (fault + 2) (length code) whole, ← cites, ← found, known_none texts empty)

      pub assigns_field :
          (depth : ℕ) → (length texts ≡ 0 → ⊥) → depth ≡ field_slots (descriptor_of texts) →
          faulted (AssignField index) depth ≡ decoded_as 181 code members count fault
      unfolding decoded_as rule_of action_of lookup_in
      assigns_field depth some e = rw (lt-ltb (fault + 2) (length code) whole, ← cites, ← found, known_some texts some, e)

    module _ (found : texts ≡ member_found members index 1 count 0 0) where
      pub invoke_missing : length texts ≡ 0 → None ≡ decoded_as 182 code members count fault
      unfolding decoded_as rule_of action_of lookup_in
      invoke_missing empty =
          rw (lt-ltb (fault + 2) (length code) whole, ← cites, ← found, known_none texts empty)
          (either (constructs members count index))

      module _ (some : length texts ≡ 0 → ⊥) where
        pub constructor : same_list (name_of texts) (ascii "<init>") ≡ true → None ≡ decoded_as 182 code members count fault
        unfolding decoded_as rule_of action_of lookup_in constructs
        constructor test = rw (lt-ltb (fault + 2) (length code) whole, ← cites, ← found, known_some texts some, test)

        module _ (other : same_list (name_of texts) (ascii "<init>") ≡ false) where
          pub invoke_unread : parameters (descriptor_of texts) ≡ None → None ≡ decoded_as 182 code members count fault
          unfolding decoded_as rule_of action_of lookup_in constructs
          invoke_unread p = rw (lt-ltb (fault + 2) (length code) whole, ← cites, ← found, known_some texts some, other, p)

          pub invokes_method :
              (p : Params) → parameters (descriptor_of texts) ≡ Some p →
              faulted (Invoke index) p.slots ≡ decoded_as 182 code members count fault
          unfolding decoded_as rule_of action_of lookup_in constructs
          invokes_method p e =
              rw (lt-ltb (fault + 2) (length code) whole, ← cites, ← found, known_some texts some, other, e)

  -- ---- opcodes

  pub loads_array : (op : ℕ) → 46 ≤ op → op ≤ 53 → faulted (LoadArray (op - 46)) 1 ≡ decoded_as op code members count fault
  unfolding decoded_as rule_of action_of
  loads_array op l u =
      rw (
        ne_eqb op 180 (λ e. omega arith),
        ne_eqb op 181 (λ e. omega arith),
        ne_eqb op 182 (λ e. omega arith),
        ne_eqb op 183 (λ e. omega arith),
        ne_eqb op 185 (λ e. omega arith),
        le-leb 46 op l,
        le-leb op 53 u,
      )

  pub stores_array :
      (op : ℕ) → 79 ≤ op → op ≤ 86 →
      faulted (StoreArray (op - 79)) (pick (one_of (80 ∷ 82 ∷ []) op) 3 2) ≡ decoded_as op code members count fault
  unfolding decoded_as rule_of action_of
  stores_array op l u =
      rw (
        ne_eqb op 180 (λ e. omega arith),
        ne_eqb op 181 (λ e. omega arith),
        ne_eqb op 182 (λ e. omega arith),
        ne_eqb op 183 (λ e. omega arith),
        ne_eqb op 185 (λ e. omega arith),
        lt-leb op 53 (omega arith),
        le-leb 46 op (omega arith),
        le-leb 79 op l,
        le-leb op 86 u,
      )
      (by_test (one_of (80 ∷ 82 ∷ []) op))
    where
      by_test :
          (b : Bool) →
          faulted (StoreArray (op - 79)) (pick b 3 2)
          ≡ failed_at (depth_by (pick b (fixed 3) (fixed 2)) (lookup_in members count) code fault) (StoreArray (op - 79))
      by_test true = refl
      by_test false = refl

  -- 183 and 185 are as 182
  pub as_special :
      (op : ℕ) → 182 ≤ op → op < 184 → decoded_as 182 code members count fault ≡ decoded_as op code members count fault
  unfolding decoded_as rule_of action_of
  as_special op l u =
      ⊎_elim
      (λ (e : 182 ≡ op). rw (← e))
      (λ (m : 182 < op). let e : op ≡ 183 = omega arith in rw e)
      (eq-or-lt_of_le l)

  pub as_interface : (op : ℕ) → op ≡ 185 → decoded_as 182 code members count fault ≡ decoded_as op code members count fault
  unfolding decoded_as rule_of action_of
  as_interface op e = rw e

  pub nothing_at : (op : ℕ) → rule_of op ≡ none → None ≡ decoded_as op code members count fault
  unfolding decoded_as
  nothing_at op e = rw e (either (both (invokes op) (constructs members count (u16_at code (fault + 1)))))

-- behind getfield and putfield
pub behind_fields : (op : ℕ) → 180 ≤ op → (op ≡ 180 → ⊥) → (op ≡ 181 → ⊥) → 182 ≤ op
behind_fields op l a b = omega arith

-- ---- opcodes that dereference nothing

abbrev pub is_none : Rule → Bool
is_none none = true
is_none (fixed depth) = false
is_none reads = false
is_none writes = false
is_none invokes_rule = false

pub none_so : (rule : Rule) → T (is_none rule) → rule ≡ none
none_so none t = refl
none_so (fixed depth) t = absurd t
none_so reads t = absurd t
none_so writes t = absurd t
none_so invokes_rule t = absurd t
