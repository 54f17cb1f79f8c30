-- An entry of another kind than the one that is wanted: by what the default arm of a match that has one arm knows.
-- Assumes nothing.
use Prim.Native.Nat.{ℕ}
use mathlib.Core.Path.{◌≡◌, refl}
use Rattle.classformat.specs.Contents.{then_text, then_class, then_member, then_named}
use Rattle.classformat.specs.declared.Entry.{Entry}
use Rattle.classformat.specs.declared.Entry.TheVariants.{Text, Class, Member, Named, Other, Nothing}

module _ {A : Type 0} (otherwise : A) where
  pub no-text :
      (following : ℕ → ℕ → A) (entry : Entry) → ((start size : ℕ) → entry ≡ Text start size → ⊥) →
      then_text entry otherwise following ≡ otherwise
  no-text following (Text start size) o = absurd (o start size refl)
  no-text following (Class name) o = refl
  no-text following (Member kind class pair) o = refl
  no-text following (Named name descriptor) o = refl
  no-text following Other o = refl
  no-text following Nothing o = refl

  pub no_class :
      (following : ℕ → A) (entry : Entry) → ((name : ℕ) → entry ≡ Class name → ⊥) →
      then_class entry otherwise following ≡ otherwise
  no_class following (Text start size) o = refl
  no_class following (Class name) o = absurd (o name refl)
  no_class following (Member kind class pair) o = refl
  no_class following (Named name descriptor) o = refl
  no_class following Other o = refl
  no_class following Nothing o = refl

  pub no_member :
      (following : ℕ → ℕ → ℕ → A) (entry : Entry) → ((kind class pair : ℕ) → entry ≡ Member kind class pair → ⊥) →
      then_member entry otherwise following ≡ otherwise
  no_member following (Text start size) o = refl
  no_member following (Class name) o = refl
  no_member following (Member kind class pair) o = absurd (o kind class pair refl)
  no_member following (Named name descriptor) o = refl
  no_member following Other o = refl
  no_member following Nothing o = refl

  pub no_named :
      (following : ℕ → ℕ → A) (entry : Entry) → ((name descriptor : ℕ) → entry ≡ Named name descriptor → ⊥) →
      then_named entry otherwise following ≡ otherwise
  no_named following (Text start size) o = refl
  no_named following (Class name) o = refl
  no_named following (Member kind class pair) o = refl
  no_named following (Named name descriptor) o = absurd (o name descriptor refl)
  no_named following Other o = refl
  no_named following Nothing o = refl
