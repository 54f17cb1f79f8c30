-- The member lookup, declared (document 01: "a member lookup hands back the part of the case"; "A member missing, or of the
-- other kind"). The statements are proved in proofs/ of this crate.
-- Assumes nothing.
use Rattle.std.specs.Prelude.{ℕ, ◌<◌, ◌≡◌, length}
use mathlib.Core.List.{List, [], Memᴰ}
use Rattle.items.specs.Text.{class_of, name_of, descriptor_of}
use Rattle.lookup.specs.Lookup.{member_found}
use Rattle.cases.specs.LaidOut.{Member, texts_bytes, members_bytes, RightMember, RightMembers}

infix 4 ◌among◌
-- the member stands somewhere in the list
abbrev pub ◌among◌ : Member → List Member → Type 0
m among ms = Memᴰ m ms

-- what the lookup finds in the run of these members
abbrev pub found_in : List Member → ℕ → ℕ → List ℕ
found_in ms index kind = member_found (members_bytes ms) index kind (length ms) 0 0

-- The part found is that of the only member with the index, where it has the kind, and holds exactly its three texts;
-- otherwise it is empty, and no member's part is.
pub record LookupDeclared : Type 0 where
  pub found : (ms : List Member) → RightMembers 0 ms → (m : Member) → m among ms → found_in ms m.index m.kind ≡ texts_bytes m
  pub other_kind :
      (ms : List Member) → RightMembers 0 ms → (m : Member) → m among ms → (kind : ℕ) → (m.kind ≡ kind → ⊥) →
      found_in ms m.index kind ≡ []
  pub missing :
      (ms : List Member) → RightMembers 0 ms → (index kind : ℕ) → ((m : Member) → m among ms → m.index ≡ index → ⊥) →
      found_in ms index kind ≡ []
  pub only :
      (ms : List Member) → RightMembers 0 ms → (one another : Member) → one among ms → another among ms →
      one.index ≡ another.index → one ≡ another
  pub not_empty : (m : Member) → 0 < length (texts_bytes m)
  pub class : (m : Member) → RightMember m → class_of (texts_bytes m) ≡ m.class
  pub name : (m : Member) → RightMember m → name_of (texts_bytes m) ≡ m.name
  pub descriptor : (m : Member) → RightMember m → descriptor_of (texts_bytes m) ≡ m.descriptor
