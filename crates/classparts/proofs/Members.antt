-- The members of a class file: each is one that resolves fully, each number has its own, and they are right in a case.
-- Rests on: what comes of a class file (Reading); no text grows when it is turned (crates/utf8).
-- Assumes nothing.
use Rattle.std.specs.Prelude.{Option, Some, None}
use Prim.Native.Nat.{ℕ, suc, ◌+◌, ◌≤◌, ◌<◌}
use native.Mathlib.Omega.{arith}
use mathlib.Core.Path.{◌≡◌, refl, ◌∙◌, sym, ap, subst}
use mathlib.Core.Bool.{Bool, true, false}
use mathlib.Core.Logic.{◌⊎◌, inl, inr}
use mathlib.Core.List.{List, [], ◌∷◌, ◌++◌}
use lib.Dec.{eqb}
use lib.ListN.{length, drop, length-take, length-append, get_or-eq_default}
use borrow.Author.Tests.{eq-eqb, ne_eqb, eqb-true, eqb-false}
use Rattle.number.specs.Number.{greatest}
use Rattle.cases.specs.LaidOut as laid
use Rattle.cases.specs.LaidOut.{RightMember, RightMembers, none, more}
use Rattle.utf8.specs.Turning.{turned, is_modified}
use Rattle.utf8.proofs.Meaning.{text_declared}
use Rattle.format.specs.Format.{bytes_at}
use Rattle.format.proofs.Making.{every_at}
use Rattle.classformat.specs.Contents.{Pool, entry_in, name_of, spelled, then_text, then_class, then_member, then_named, ClassFile}
use Rattle.classformat.specs.declared.Entry.{Entry}
use Rattle.classformat.specs.declared.Entry.TheVariants.{Text, Class, Member, Named, Other, Nothing}
use Rattle.entries.specs.Entries.{resolved_by}
use Rattle.entries.specs.declared.Resolved.{Resolved}
use Rattle.entries.proofs.Resolving.{whole}
use Rattle.single.specs.Single.{first, only}
use Rattle.classtexts.specs.Texts.{turned_member}
use Rattle.classparts.specs.Parts.{text_by, member_as, member_by, members_from, members_of}
use Rattle.classparts.specs.Right.{IsClass, Spells, Resolves, MembersDeclared}
use Rattle.classparts.proofs.Reading.{EntryRight, PoolRight, class_right}

-- ---- what an entry of a kind leads to, or the answer where it is of another

module _ {A : Type 0} (P : A → Type 0) (otherwise : A) (so : P otherwise) where
  by_text :
      (e : Entry) (following : ℕ → ℕ → A) → ((start size : ℕ) → e ≡ Text start size → P (following start size)) →
      P (then_text e otherwise following)
  by_text (Text start size) following is = is start size refl
  by_text (Class name) following is = so
  by_text (Member kind class pair) following is = so
  by_text (Named name descriptor) following is = so
  by_text Other following is = so
  by_text Nothing following is = so

  by_class :
      (e : Entry) (following : ℕ → A) → ((name : ℕ) → e ≡ Class name → P (following name)) →
      P (then_class e otherwise following)
  by_class (Text start size) following is = so
  by_class (Class name) following is = is name refl
  by_class (Member kind class pair) following is = so
  by_class (Named name descriptor) following is = so
  by_class Other following is = so
  by_class Nothing following is = so

  by_named :
      (e : Entry) (following : ℕ → ℕ → A) → ((name descriptor : ℕ) → e ≡ Named name descriptor → P (following name descriptor)) →
      P (then_named e otherwise following)
  by_named (Text start size) following is = so
  by_named (Class name) following is = so
  by_named (Member kind class pair) following is = so
  by_named (Named name descriptor) following is = is name descriptor refl
  by_named Other following is = so
  by_named Nothing following is = so

  by_member :
      (e : Entry) (following : ℕ → ℕ → ℕ → A) → ((kind class pair : ℕ) → e ≡ Member kind class pair → P (following kind class pair)) →
      P (then_member e otherwise following)
  by_member (Text start size) following is = so
  by_member (Class name) following is = so
  by_member (Member kind class pair) following is = is kind class pair refl
  by_member (Named name descriptor) following is = so
  by_member Other following is = so
  by_member Nothing following is = so

-- ---- a member that resolves fully

module _ (file : List ℕ) (entry : ℕ → Entry) where
  spells : (number start size : ℕ) → entry number ≡ Text start size → Spells file entry number (text_by file entry number)
  spells number start size is =
      record { start = start; size = size; found = is; bytes = ap (λ (e : Entry). spelled (name_of file e)) is }

  -- what is resolved is declared so
  abbrev Declares : ℕ → Option Resolved → Type 0
  Declares number (Some member) =
      Resolves file entry number member.kind (text_by file entry member.class) (text_by file entry member.name)
      (text_by file entry member.descriptor)
  Declares number None = Unit {0}

  declares : (number : ℕ) → Declares number (resolved_by entry number)
  unfolding resolved_by
  declares number =
      by_member (Declares number) None tt (entry number) _ (λ kind owner pair member.
      by_class (Declares number) None tt (entry owner) _ (λ class owned.
      by_named (Declares number) None tt (entry pair) _ (λ name descriptor paired.
      by_text (Declares number) None tt (entry class) _ (λ a i class_text.
      by_text (Declares number) None tt (entry name) _ (λ b j name_text.
      by_text (Declares number) None tt (entry descriptor) _ (λ d k descriptor_text.
      record {
        owner = owner;
        pair = pair;
        class_number = class;
        name_number = name;
        descriptor_number = descriptor;
        member = member;
        owned = owned;
        paired = paired;
        class_text = spells class a i class_text;
        name_text = spells name b j name_text;
        descriptor_text = spells descriptor d k descriptor_text;
      }))))))

  text_is : (number : ℕ) (text : List ℕ) → Spells file entry number text → text_by file entry number ≡ text
  text_is number text is = ap (λ (e : Entry). spelled (name_of file e)) is.found ∙ sym is.bytes

  resolves :
      (number kind : ℕ) (class name descriptor : List ℕ) → Resolves file entry number kind class name descriptor →
      member_by file entry number ≡ turned_member number kind class name descriptor ∷ []
  unfolding member_by
  resolves number kind class name descriptor is =
      let c = is.class_text in
      let n = is.name_text in
      let d = is.descriptor_text in
      let made = whole entry number is.member is.owned is.paired c.found n.found d.found in
      rw (← made, text_is is.class_number class c, text_is is.name_number name n, text_is is.descriptor_number descriptor d)

  resolved_fully :
      (number : ℕ) →
      (member_by file entry number ≡ [])
      ⊎ ((kind : ℕ) × (class name descriptor : List ℕ) × Resolves file entry number kind class name descriptor)
  unfolding member_by
  resolved_fully number = by (resolved_by entry number) (declares number)
    where
      by :
          (r : Option Resolved) → Declares number r →
          (member_as file entry number r ≡ [])
          ⊎ ((kind : ℕ) × (class name descriptor : List ℕ) × Resolves file entry number kind class name descriptor)
      by (Some member) is =
          inr (member.kind, text_by file entry member.class, text_by file entry member.name, text_by file entry member.descriptor, is)
      by None is = inl refl

  -- ---- a member alone, with its number

  abbrev Alone : ℕ → List laid.Member → Type 0
  Alone number [] = Unit {0}
  Alone number (m ∷ []) = m.index ≡ number
  Alone number (m ∷ (n ∷ ms)) = ⊥

  alone : (number : ℕ) → Alone number (member_by file entry number)
  unfolding member_by
  alone number = by (resolved_by entry number)
    where
      by : (r : Option Resolved) → Alone number (member_as file entry number r)
      by (Some member) = refl
      by None = tt

  -- one that has another number is passed
  other :
      (index number : ℕ) (ms rest : List laid.Member) → Alone number ms → eqb number index ≡ false →
      only index (ms ++ rest) ≡ only index rest
  unfolding first
  other index number [] rest is differs = refl
  other index number (m ∷ []) rest is differs = rw (is, differs)
  other index number (m ∷ (n ∷ ms)) rest is differs = absurd is

  -- and one that has the number is all
  this : (index : ℕ) (ms rest : List laid.Member) → Alone index ms → only index rest ≡ [] → only index (ms ++ rest) ≡ ms
  unfolding first
  this index [] rest is behind = behind
  this index (m ∷ []) rest is behind = rw (is, eq-eqb index index refl)
  this index (m ∷ (n ∷ ms)) rest is behind = absurd is

  none_before : (index number : ℕ) (xs : Pool) → index < number → only index (members_from file entry number xs) ≡ []
  unfolding first members_from
  none_before index number [] below = refl
  none_before index number (x ∷ xs) below =
      other index number (member_by file entry number) (members_from file entry (suc number) xs) (alone number)
      (ne_eqb number index (λ e. omega (arith, below, e)))
      ∙ none_before index (suc number) xs (omega (arith, below))

  found :
      (index number : ℕ) (xs : Pool) → number ≤ index → (number + length xs ≤ index → member_by file entry index ≡ []) →
      only index (members_from file entry number xs) ≡ member_by file entry index
  unfolding first members_from
  found index number [] from past = sym (past (omega (arith, from)))
  found index number (x ∷ xs) from past =
      by (eqb number index) refl (λ further. found index (suc number) xs further (λ far. past (omega (arith, far))))
    where
      rest : List laid.Member
      rest = members_from file entry (suc number) xs

      by :
          (t : Bool) → eqb number index ≡ t → (suc number ≤ index → only index rest ≡ member_by file entry index) →
          only index (member_by file entry number ++ rest) ≡ member_by file entry index
      by true e onward =
          let same : number ≡ index = eqb-true number index e in
          subst (λ (k : ℕ). only index (member_by file entry k ++ rest) ≡ member_by file entry index) (sym same)
          (this index (member_by file entry index) rest (alone index) (none_before index (suc number) xs (omega (arith, same))))
      by false e onward =
          let differs = eqb-false number index e in
          other index number (member_by file entry number) rest (alone number) e ∙ onward (omega (arith, from, differs))

  -- ---- right in a case

  module _ (all : (number : ℕ) → EntryRight file (entry number)) where
    pub text_short : (number : ℕ) → length (turned (text_by file entry number)) ≤ greatest
    text_short number = by (entry number) (all number)
      where
        nothing : length (turned []) ≤ greatest
        nothing = omega (arith, text_declared.shorter [])

        by : (e : Entry) → EntryRight file e → length (turned (spelled (name_of file e))) ≤ greatest
        by (Text start size) so =
            omega (arith, text_declared.shorter (bytes_at file start size), length-take size (drop start file), so.1)
        by (Class name) so = nothing
        by (Member kind class pair) so = nothing
        by (Named name descriptor) so = nothing
        by Other so = nothing
        by Nothing so = nothing

    abbrev RightAlone : ℕ → List laid.Member → Type 0
    RightAlone number [] = Unit {0}
    RightAlone number (m ∷ []) = (m.index ≡ number) × RightMember m
    RightAlone number (m ∷ (n ∷ ms)) = ⊥

    right_alone : (number : ℕ) → number ≤ greatest → RightAlone number (member_by file entry number)
    unfolding member_by
    right_alone number low = by (resolved_by entry number) (declares number)
      where
        by : (r : Option Resolved) → Declares number r → RightAlone number (member_as file entry number r)
        by (Some member) is = (
          refl,
          record {
            index = low;
            kind = subst (EntryRight file) is.member (all number);
            class = text_short member.class;
            name = text_short member.name;
            descriptor = text_short member.descriptor;
          },
        )
        by None is = tt

    right_then :
        (last number : ℕ) (ms rest : List laid.Member) → RightAlone number ms → last < number →
        ((before : ℕ) → before < suc number → RightMembers before rest) → RightMembers last (ms ++ rest)
    right_then last number [] rest is above onward = onward last (omega (arith, above))
    right_then last number (m ∷ []) rest (is, so) above onward =
        let higher : last < m.index = omega (arith, above, is) in
        more higher so (onward m.index (omega (arith, is)))
    right_then last number (m ∷ (n ∷ ms)) rest is above onward = absurd is

    right_from :
        (last number : ℕ) (xs : Pool) → last < number → number + length xs ≤ suc greatest →
        RightMembers last (members_from file entry number xs)
    unfolding members_from
    right_from last number [] above few = none
    right_from last number (x ∷ xs) above few =
        right_then last number (member_by file entry number) (members_from file entry (suc number) xs)
        (right_alone number (omega (arith, few))) above
        (λ before below. right_from before (suc number) xs below (omega (arith, few)))

  -- ---- there are no more members than numbers

  few_alone : (number : ℕ) (ms : List laid.Member) → Alone number ms → length ms ≤ 1
  few_alone number [] is = omega arith
  few_alone number (m ∷ []) is = omega arith
  few_alone number (m ∷ (n ∷ ms)) is = absurd is

  few_from : (number : ℕ) (xs : Pool) → length (members_from file entry number xs) ≤ length xs
  unfolding members_from
  few_from number [] = omega arith
  few_from number (x ∷ xs) =
      omega (
        arith,
        length-append (member_by file entry number) (members_from file entry (suc number) xs),
        few_alone number (member_by file entry number) (alone number),
        few_from (suc number) xs,
      )

-- ---- the statements

module _ (file : List ℕ) (pool : Pool) where
  no_member : (number : ℕ) → entry_in pool number ≡ Nothing → member_by file (entry_in pool) number ≡ []
  unfolding member_by resolved_by
  no_member number is = rw is

  single : (index : ℕ) → only index (members_of file pool) ≡ member_by file (entry_in pool) index
  unfolding members_of
  single index =
      found file (entry_in pool) index 0 pool (omega arith)
      (λ past. no_member index (get_or-eq_default pool Nothing (omega (arith, past))))

  pub few_members : length (members_of file pool) ≤ length pool
  unfolding members_of
  few_members = few_from file (entry_in pool) 0 pool

module _ (file : List ℕ) (c : ClassFile) (is : IsClass file c) where
  pub entry_right : (number : ℕ) → EntryRight file (entry_in c.pool number)
  entry_right number = every_at (EntryRight file) c.pool Nothing (class_right file c is).pool.entries tt number

  -- number 0 has no entry
  members_right : RightMembers 0 (members_of file c.pool)
  unfolding members_of members_from
  members_right = by c.pool refl
    where
      so : PoolRight file c.pool
      so = (class_right file c is).pool

      by : (pool : Pool) → c.pool ≡ pool → RightMembers 0 (members_of file pool)
      by [] same = none
      by (x ∷ xs) same =
          subst (λ (first : List laid.Member). RightMembers 0 (first ++ members_from file (entry_in (x ∷ xs)) 1 xs))
          (sym (no_member file (x ∷ xs) 0 (subst (λ (pool : Pool). entry_in pool 0 ≡ Nothing) same so.first)))
          (right_from file (entry_in (x ∷ xs))
          (subst (λ (pool : Pool). (number : ℕ) → EntryRight file (entry_in pool number)) same entry_right) 0 1 xs (omega arith)
          (let few = subst (λ (pool : Pool). length pool ≤ 65535) same so.few in omega (arith, few)))

  judged :
      (number start size : ℕ) → entry_in c.pool number ≡ Text start size → is_modified (bytes_at file start size) ≡ true
  judged number start size found = (subst (EntryRight file) found (entry_right number)).2

pub members_declared : MembersDeclared
members_declared =
    record { resolves = resolves; resolved = resolved_fully; single = single; right = members_right; judged = judged }
