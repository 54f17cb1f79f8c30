-- A member by its entries, one after the other: it is missing at the first that is not of the kind that is wanted.
-- Assumes nothing.
use Rattle.std.specs.Prelude.{Option, Some, None}
use Prim.Native.Nat.{ℕ}
use mathlib.Core.Path.{◌≡◌}
use Rattle.classformat.specs.declared.Entry.{Entry}
use Rattle.classformat.specs.declared.Entry.TheVariants.{Text, Class, Member, Named}
use Rattle.classformat.proofs.Unlike.{no-text, no_class, no_member, no_named}
use Rattle.entries.specs.Entries.{resolved_by}
use Rattle.entries.specs.declared.Resolved.{Resolved}

module _ (entry : ℕ → Entry) (index : ℕ) where
  pub without_member :
      (x : Entry) → x ≡ entry index → ((a b d : ℕ) → x ≡ Member a b d → ⊥) → None ≡ resolved_by entry index
  unfolding resolved_by
  without_member x is o = rw (← is, no_member {A = Option Resolved} None _ x o)

  module _ {kind class pair : ℕ} (member : entry index ≡ Member kind class pair) where
    pub without_class :
        (x : Entry) → x ≡ entry class → ((a : ℕ) → x ≡ Class a → ⊥) → None ≡ resolved_by entry index
    unfolding resolved_by
    without_class x is o = rw (member, ← is, no_class {A = Option Resolved} None _ x o)

    module _ {owner : ℕ} (owned : entry class ≡ Class owner) where
      pub without_pair :
          (x : Entry) → x ≡ entry pair → ((a b : ℕ) → x ≡ Named a b → ⊥) → None ≡ resolved_by entry index
      unfolding resolved_by
      without_pair x is o = rw (member, owned, ← is, no_named {A = Option Resolved} None _ x o)

      module _ {name descriptor : ℕ} (paired : entry pair ≡ Named name descriptor) where
        pub without_owner :
            (x : Entry) → x ≡ entry owner → ((a b : ℕ) → x ≡ Text a b → ⊥) → None ≡ resolved_by entry index
        unfolding resolved_by
        without_owner x is o = rw (member, owned, paired, ← is, no-text {A = Option Resolved} None _ x o)

        module _ {start size : ℕ} (class_text : entry owner ≡ Text start size) where
          pub without_name :
              (x : Entry) → x ≡ entry name → ((a b : ℕ) → x ≡ Text a b → ⊥) → None ≡ resolved_by entry index
          unfolding resolved_by
          without_name x is o = rw (member, owned, paired, class_text, ← is, no-text {A = Option Resolved} None _ x o)

          module _ {from count : ℕ} (name_text : entry name ≡ Text from count) where
            pub without_descriptor :
                (x : Entry) → x ≡ entry descriptor → ((a b : ℕ) → x ≡ Text a b → ⊥) →
                None ≡ resolved_by entry index
            unfolding resolved_by
            without_descriptor x is o = rw (member, owned, paired, class_text, name_text, ← is, no-text {A = Option Resolved} None _ x o)

            pub whole :
                {at bytes : ℕ} → entry descriptor ≡ Text at bytes → Some (record { kind = kind; class = owner; name = name; descriptor = descriptor }) ≡ resolved_by entry index
            unfolding resolved_by
            whole descriptor_text = rw (member, owned, paired, class_text, name_text, descriptor_text)
