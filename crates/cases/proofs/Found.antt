-- The lookup in a run of members finds the part of the only member with the index.
-- Rests on: what stands is read (Reading, Items).
-- Assumes nothing.
use Rattle.std.specs.Prelude.{Ok}
use Prim.Native.Nat.{ℕ, zero, suc, ◌+◌, ◌-◌, ◌≤◌, ◌<◌}
use native.Mathlib.Omega.{arith}
use native.Mathlib.Nat.{add-sub_cancel_left}
use mathlib.Core.Path.{◌≡◌, refl, ◌∙◌, sym, ap, subst}
use mathlib.Core.Bool.{Bool, true, false}
use mathlib.Core.Logic.{⊎_elim}
use mathlib.Core.List.Memᴰ
use mathlib.Core.List.{List, [], ◌∷◌, ◌++◌, append-nil, Memᴰ}
use lib.Dec.{eqb, ltb}
use lib.ListN.{length, take, drop, length-append}
use borrow.Author.Tests.{lt-ltb, le-leb, eq-eqb, ne_eqb}
use Rattle.basics.specs.Choice.{pick}
use Rattle.number.specs.Number.{greatest, group_or_more, groups_of, number_bytes}
use Rattle.items.specs.Text.{text_bytes, text_part, after_text, class_of, name_of, descriptor_of}
use Rattle.tables.specs.Layout.{ended, run_by}
use Rattle.tables.specs.Member.{member_at}
use Rattle.lookup.specs.Lookup.{member_found}
use Rattle.cases.specs.LaidOut.{Member, texts_bytes, member_bytes, members_bytes, RightMember, RightMembers, more}
use Rattle.cases.specs.Lookup.{◌among◌, found_in, LookupDeclared}
use Rattle.cases.specs.Standing.{Stands}
use Rattle.cases.proofs.Items.{texts_on}
use Rattle.cases.proofs.Reading.{first_stands, second_stands, standing_part, number_reads, text_reads, text_part_is}

-- ---- a member that stands is read

module _ (bytes : List ℕ) (at : ℕ) (m : Member) where
  abbrev texts_at : ℕ
  texts_at = at + length (number_bytes m.index) + length (number_bytes m.kind)

  texts_stand : Stands bytes at (member_bytes m) → Stands bytes texts_at (texts_bytes m)
  unfolding member_bytes
  texts_stand stands =
      second_stands bytes (at + length (number_bytes m.index)) (number_bytes m.kind) (texts_bytes m)
      (second_stands bytes at (number_bytes m.index) (number_bytes m.kind ++ texts_bytes m) stands)

  member_reads :
      (last : ℕ) → last < m.index → RightMember m → Stands bytes at (member_bytes m) →
      member_at bytes last at
      ≡ Ok (record { index = m.index; kind = m.kind; texts = texts_at; next = texts_at + length (texts_bytes m) })
  unfolding member_at member_bytes run_by
  member_reads last above right stands =
      let index = number_bytes m.index in
      let kind = number_bytes m.kind in
      let behind = second_stands bytes at index (kind ++ texts_bytes m) stands in
      rw (
        number_reads greatest bytes at m.index right.index (first_stands bytes at index (kind ++ texts_bytes m) stands),
        lt-ltb last m.index above,
        number_reads greatest bytes (at + length index) m.kind (omega (arith, right.kind))
            (first_stands bytes (at + length index) kind (texts_bytes m) behind),
        le-leb m.kind 1 right.kind,
        texts_on bytes texts_at ended m right (texts_stand stands),
      )

-- ---- the lookup over a list of members

-- the texts of the first member with the index, where it has the kind
abbrev pub found_among : ℕ → ℕ → List Member → List ℕ
found_among index kind [] = []
found_among index kind (m ∷ ms) =
    pick (eqb m.index index) (pick (eqb m.kind kind) (texts_bytes m) []) (found_among index kind ms)

found-among :
    (bytes : List ℕ) (index kind at last : ℕ) (ms : List Member) → RightMembers last ms → Stands bytes at (members_bytes ms) →
    member_found bytes index kind (length ms) last at ≡ found_among index kind ms
unfolding member_found members_bytes member_bytes
found-among bytes index kind at last [] right stands = refl
found-among bytes index kind at last (m ∷ ms) (more above right rest) stands =
    let own = first_stands bytes at (member_bytes m) (members_bytes ms) stands in
    let next = texts_at bytes at m + length (texts_bytes m) in
    let ends : at + length (member_bytes m) ≡ next =
    omega (
      arith,
      length-append (number_bytes m.index) (number_bytes m.kind ++ texts_bytes m),
      length-append (number_bytes m.kind) (texts_bytes m),
    ) in
    let others : Stands bytes next (members_bytes ms) =
    subst (λ (n : ℕ). Stands bytes n (members_bytes ms)) ends (second_stands bytes at (member_bytes m) (members_bytes ms) stands) in
    let part : take (next - texts_at bytes at m) (drop (texts_at bytes at m) bytes) ≡ texts_bytes m =
    ap (λ (n : ℕ). take n (drop (texts_at bytes at m) bytes)) (add-sub_cancel_left (texts_at bytes at m) (length (texts_bytes m)))
    ∙ standing_part bytes (texts_at bytes at m) (texts_bytes m) (texts_stand bytes at m own) in
    rw (member_reads bytes at m last above right own, part, found-among bytes index kind next m.index ms rest others)

-- ---- which member that is

-- indexes rise
above_last : (last : ℕ) (m : Member) (ms : List Member) → RightMembers last ms → m among ms → last < m.index
above_last last m [] right in_List = absurd (Memᴰ.not-nil in_List)
above_last last m (x ∷ xs) (more above right rest) in_List =
    ⊎_elim
    (λ (e : m ≡ x). omega (arith, ap (λ (y : Member). y.index) e))
    (λ (later : m among xs). omega (arith, above_last x.index m xs rest later))
    (Memᴰ.cases_cons in_List)

among_found : (last : ℕ) (m : Member) (ms : List Member) → RightMembers last ms → m among ms → (kind : ℕ) →
    found_among m.index kind ms ≡ pick (eqb m.kind kind) (texts_bytes m) []
among_found last m [] right in_List kind = absurd (Memᴰ.not-nil in_List)
among_found last m (x ∷ xs) (more above right rest) in_List kind =
    ⊎_elim
    (λ (e : m ≡ x). rw (e, eq-eqb x.index x.index refl))
    (λ (later : m among xs).
    let higher = above_last x.index m xs rest later in
    rw (ne_eqb x.index m.index (λ e. omega (arith, e))) (among_found x.index m xs rest later kind))
    (Memᴰ.cases_cons in_List)

none_found : (index kind : ℕ) (ms : List Member) → ((m : Member) → m among ms → m.index ≡ index → ⊥) → found_among index kind ms ≡ []
none_found index kind [] missing = refl
none_found index kind (x ∷ xs) missing =
    rw (ne_eqb x.index index (missing x (Memᴰ.head refl)))
    (none_found index kind xs (λ m later. missing m (Memᴰ.tail later)))

only_one : (last : ℕ) (ms : List Member) → RightMembers last ms → (m n : Member) → m among ms → n among ms → m.index ≡ n.index → m ≡ n
only_one last [] right m n in_List also e = absurd (Memᴰ.not-nil in_List)
only_one last (x ∷ xs) (more above right rest) m n in_List also e =
    ⊎_elim
    (λ (p : m ≡ x).
    ⊎_elim
    (λ (q : n ≡ x). p ∙ sym q)
    (λ (later : n among xs). absurd (omega (arith, above_last x.index n xs rest later, ap (λ (y : Member). y.index) p)))
    (Memᴰ.cases_cons also))
    (λ (sooner : m among xs).
    ⊎_elim
    (λ (q : n ≡ x). absurd (omega (arith, above_last x.index m xs rest sooner, ap (λ (y : Member). y.index) q)))
    (λ (later : n among xs). only_one x.index xs rest m n sooner later e)
    (Memᴰ.cases_cons also))
    (Memᴰ.cases_cons in_List)

-- ---- the texts of a part

-- the whole of some bytes stands at 0
whole_stands : (run : List ℕ) → Stands run 0 run
whole_stands run = record { rest = []; is = sym (append-nil run) }

module _ (bytes : List ℕ) (at : ℕ) (t : List ℕ) (fits : length t ≤ greatest) (stands : Stands bytes at (text_bytes t)) where
  part_of : text_part bytes at ≡ t
  unfolding text_part
  part_of = rw (text_reads bytes at t fits stands) (text_part_is bytes at t stands)

  after_of : after_text bytes at ≡ at + length (text_bytes t)
  unfolding after_text text_bytes
  after_of = rw (text_reads bytes at t fits stands) (omega (arith, length-append (number_bytes (length t)) t))

module _ (m : Member) (right : RightMember m) where
  abbrev class_part : List ℕ
  class_part = text_bytes m.class

  abbrev name_part : List ℕ
  name_part = text_bytes m.name

  abbrev descriptor_part : List ℕ
  descriptor_part = text_bytes m.descriptor

  class_stands : Stands (texts_bytes m) 0 class_part
  unfolding texts_bytes
  class_stands = first_stands (texts_bytes m) 0 class_part (name_part ++ descriptor_part) (whole_stands (texts_bytes m))

  behind_class : Stands (texts_bytes m) (0 + length class_part) (name_part ++ descriptor_part)
  unfolding texts_bytes
  behind_class = second_stands (texts_bytes m) 0 class_part (name_part ++ descriptor_part) (whole_stands (texts_bytes m))

  name_stands : Stands (texts_bytes m) (0 + length class_part) name_part
  name_stands = first_stands (texts_bytes m) (0 + length class_part) name_part descriptor_part behind_class

  descriptor_stands : Stands (texts_bytes m) (0 + length class_part + length name_part) descriptor_part
  descriptor_stands = second_stands (texts_bytes m) (0 + length class_part) name_part descriptor_part behind_class

  class_is : class_of (texts_bytes m) ≡ m.class
  unfolding class_of
  class_is = part_of (texts_bytes m) 0 m.class right.class class_stands

  name_is : name_of (texts_bytes m) ≡ m.name
  unfolding name_of
  name_is =
      rw (after_of (texts_bytes m) 0 m.class right.class class_stands)
      (part_of (texts_bytes m) (0 + length class_part) m.name right.name name_stands)

  descriptor_is : descriptor_of (texts_bytes m) ≡ m.descriptor
  unfolding descriptor_of
  descriptor_is =
      rw (
        after_of (texts_bytes m) 0 m.class right.class class_stands,
        after_of (texts_bytes m) (0 + length class_part) m.name right.name name_stands,
      )
      (part_of (texts_bytes m) (0 + length class_part + length name_part) m.descriptor right.descriptor descriptor_stands)

-- a number has at least one byte
some_bytes : (v : ℕ) → 0 < length (number_bytes v)
unfolding number_bytes groups_of
some_bytes v = of v v
  where
    by_test : (t : Bool) (w : ℕ) (following : ℕ → List ℕ) → 0 < length (group_or_more t w following)
    by_test true w following = omega arith
    by_test false w following = omega arith

    of : (k w : ℕ) → 0 < length (groups_of k w)
    of zero w = omega arith
    of (suc k) w = by_test (ltb w 128) w (λ high. groups_of k high)

not-empty : (m : Member) → 0 < length (texts_bytes m)
unfolding texts_bytes text_bytes
not-empty m =
    omega (
      arith,
      some_bytes (length m.class),
      length-append (text_bytes m.class) (text_bytes m.name ++ text_bytes m.descriptor),
      length-append (number_bytes (length m.class)) m.class,
    )

-- ---- the statement

module _ (ms : List Member) (right : RightMembers 0 ms) where
  pub in_run : (index kind : ℕ) → found_in ms index kind ≡ found_among index kind ms
  in_run index kind = found-among (members_bytes ms) index kind 0 0 ms right (whole_stands (members_bytes ms))

  found : (m : Member) → m among ms → found_in ms m.index m.kind ≡ texts_bytes m
  found m in_List =
      in_run m.index m.kind ∙ among_found 0 m ms right in_List m.kind ∙ rw (eq-eqb m.kind m.kind refl)

  other-kind : (m : Member) → m among ms → (kind : ℕ) → (m.kind ≡ kind → ⊥) → found_in ms m.index kind ≡ []
  other-kind m in_List kind other =
      in_run m.index kind ∙ among_found 0 m ms right in_List kind ∙ rw (ne_eqb m.kind kind other)

  missing : (index kind : ℕ) → ((m : Member) → m among ms → m.index ≡ index → ⊥) → found_in ms index kind ≡ []
  missing index kind absent = in_run index kind ∙ none_found index kind ms absent

pub lookup_declared : LookupDeclared
lookup_declared =
    record {
      found = found;
      other_kind = other-kind;
      missing = missing;
      only = λ ms right. only_one 0 ms right;
      not_empty = not-empty;
      class = class_is;
      name = name_is;
      descriptor = descriptor_is;
    }
