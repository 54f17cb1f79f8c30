-- How long the texts of a class file are at most, turned and laid out: an array of so many bytes holds them.
-- Assumes nothing.
use Rattle.std.specs.Prelude.{Option, Some, None}
use Prim.Native.Nat.{ℕ, zero, suc, ◌+◌, ◌*◌, ◌^◌, ◌/◌, ◌≤◌, ◌<◌}
use native.Mathlib.Omega.{arith}
use mathlib.Core.Path.{◌≡◌, refl}
use mathlib.Core.Bool.{Bool, true, false}
use mathlib.Core.List.{List, [], ◌∷◌, ◌++◌}
use lib.Dec.{eqb, ltb, lit≤}
use lib.ListN.{length, drop, get_or, length-append, length-take}
use borrow.Author.Tests.{ltb-false}
use Rattle.basics.specs.Bytes.{byte_at, u16_at, AreBytes}
use Rattle.basics.specs.Choice.{one_of}
use Rattle.basics.proofs.Bytes.{u16_below}
use Rattle.basics.proofs.Choice.{chosen}
use Rattle.number.specs.Number.{group_or_more, groups_of, number_bytes}
use Rattle.items.specs.Text.{text_bytes}
use Rattle.cases.specs.LaidOut.{texts_bytes, member_bytes, members_bytes}
use Rattle.utf8.specs.Turning.{turned}
use Rattle.utf8.proofs.Meaning.{text_declared}
use Rattle.classformat.specs.Contents.{then_text, then_class, then_member, then_named, name_of, spelled}
use Rattle.classformat.specs.declared.Entry.{Entry}
use Rattle.classformat.specs.declared.Entry.TheVariants.{Text, Class, Member, Named, Other, Nothing}
use Rattle.entries.specs.Entries.{entry_behind, entry_at, entry_by, resolved_by}
use Rattle.entries.specs.declared.Resolved.{Resolved}
use Rattle.classtexts.specs.Texts.{turned_member}
use Rattle.classparts.specs.Parts.{text_by, member_as, member_by}
use Rattle.citing.specs.Longest.{longest_run}

-- ---- numbers

-- one more than the greatest number that so many groups and one more hold
abbrev held : ℕ → ℕ
held zero = 128
held (suc k) = 128 * held k

groups_within : (n k v : ℕ) → v < held k → length (groups_of n v) ≤ suc k
unfolding groups_of
groups_within zero k v small = omega arith
groups_within (suc n) k v small = by k (ltb v 128) refl small (λ fewer less. groups_within n fewer (v / 128) less)
  where
    by :
        (k : ℕ) (t : Bool) → ltb v 128 ≡ t → v < held k → ((fewer : ℕ) → v / 128 < held fewer → length (groups_of n (v / 128)) ≤ suc fewer) →
        length (group_or_more t v (λ high. groups_of n high)) ≤ suc k
    by k true e small rest = omega arith
    by zero false e small rest = absurd (omega (arith, ltb-false v 128 e, small))
    by (suc k) false e small rest =
        let high : v / 128 < held k = omega (arith, small) in
        omega (arith, rest k high)

-- a number of 64 bits has ten groups at most
pub number-within : (v : ℕ) → v < 2 ^ 64 → length (number_bytes v) ≤ 10
unfolding number_bytes
number-within v small =
    let enough : 2 ^ 64 ≤ held 9 = lit≤ tt in
    groups_within v 9 v (omega (arith, small, enough))

-- one of 16 bits has three
pub short_within : (v : ℕ) → v ≤ 65535 → length (number_bytes v) ≤ 3
unfolding number_bytes
short_within v small = groups_within v 2 v (omega (arith, small))

-- ---- texts of the pool

-- an entry of a pool: a text has a length of two bytes, a member is a field or a method
abbrev Small : Entry → Type 0
Small (Text start size) = size ≤ 65535
Small (Class name) = Unit {0}
Small (Member kind class pair) = kind ≤ 1
Small (Named name descriptor) = Unit {0}
Small Other = Unit {0}
Small Nothing = Unit {0}

module _ (file table : List ℕ) (are : AreBytes file) where
  abbrev entry : ℕ → Entry
  entry = entry_by file table

  behind_small : (tag at : ℕ) → Small (entry_behind file tag at)
  unfolding entry_behind
  behind_small tag at =
      let size : u16_at file at ≤ 65535 = omega (arith, u16_below file are at) in
      chosen Small (eqb tag 1) _ _ size
      (chosen Small (eqb tag 7) _ _ tt
      (chosen Small (eqb tag 9) _ _ (lit≤ tt)
      (chosen Small (one_of (10 ∷ 11 ∷ []) tag) _ _ (lit≤ tt)
      (chosen Small (eqb tag 12) _ _ tt tt))))

  entry_small : (number : ℕ) → Small (entry number)
  unfolding entry_at
  entry_small number =
      let place = get_or table number 0 in
      chosen Small (eqb place 0) _ _ tt (chosen Small (ltb place (length file)) _ _ (behind_small (byte_at file place) (place + 1)) tt)

  spelled_within : (e : Entry) → Small e → length (spelled (name_of file e)) ≤ 65535
  spelled_within (Text start size) small = omega (arith, small, length-take size (drop start file))
  spelled_within (Class name) small = omega arith
  spelled_within (Member kind class pair) small = omega arith
  spelled_within (Named name descriptor) small = omega arith
  spelled_within Other small = omega arith
  spelled_within Nothing small = omega arith

  -- turned, no text grows
  pub text-within : (number : ℕ) → length (turned (text_by file (entry) number)) ≤ 65535
  text-within number =
      omega (arith, text_declared.shorter (text_by file entry number), spelled_within (entry number) (entry_small number))

  pub laid_within : (number : ℕ) → length (text_bytes (turned (text_by file entry number))) ≤ 65538
  unfolding text_bytes
  laid_within number =
      let text = turned (text_by file entry number) in
      omega (
        arith,
        length-append (number_bytes (length text)) text,
        text-within number,
        short_within (length text) (text-within number),
      )

  -- ---- the run of one member

  abbrev Kind : Option Resolved → Type 0
  Kind (Some member) = member.kind ≤ 1
  Kind None = Unit {0}

  then-text : (e : Entry) (following : ℕ → ℕ → Option Resolved) → ((start size : ℕ) → Kind (following start size)) → Kind (then_text e None following)
  then-text (Text start size) following so = so start size
  then-text (Class name) following so = tt
  then-text (Member kind class pair) following so = tt
  then-text (Named name descriptor) following so = tt
  then-text Other following so = tt
  then-text Nothing following so = tt

  then-class : (e : Entry) (following : ℕ → Option Resolved) → ((name : ℕ) → Kind (following name)) → Kind (then_class e None following)
  then-class (Class name) following so = so name
  then-class (Text start size) following so = tt
  then-class (Member kind class pair) following so = tt
  then-class (Named name descriptor) following so = tt
  then-class Other following so = tt
  then-class Nothing following so = tt

  then-named : (e : Entry) (following : ℕ → ℕ → Option Resolved) → ((name descriptor : ℕ) → Kind (following name descriptor)) → Kind (then_named e None following)
  then-named (Named name descriptor) following so = so name descriptor
  then-named (Text start size) following so = tt
  then-named (Class name) following so = tt
  then-named (Member kind class pair) following so = tt
  then-named Other following so = tt
  then-named Nothing following so = tt

  then-member :
      (e : Entry) → Small e → (following : ℕ → ℕ → ℕ → Option Resolved) →
      ((kind class pair : ℕ) → kind ≤ 1 → Kind (following kind class pair)) → Kind (then_member e None following)
  then-member (Member kind class pair) small following so = so kind class pair small
  then-member (Text start size) small following so = tt
  then-member (Class name) small following so = tt
  then-member (Named name descriptor) small following so = tt
  then-member Other small following so = tt
  then-member Nothing small following so = tt

  kind_small : (index : ℕ) → Kind (resolved_by entry index)
  unfolding resolved_by
  kind_small index =
      then-member (entry index) (entry_small index) _ (λ kind class pair small.
      then-class (entry class) _ (λ owner.
      then-named (entry pair) _ (λ name descriptor.
      then-text (entry owner) _ (λ start size. then-text (entry name) _ (λ start size. then-text (entry descriptor) _ (λ start size. small))))))

  as_within :
      (index : ℕ) → index < 2 ^ 64 → (r : Option Resolved) → Kind r → length (members_bytes (member_as file entry index r)) ≤ longest_run
  unfolding members_bytes member_bytes texts_bytes
  as_within index small None so = omega arith
  as_within index small (Some member) so =
      let m = turned_member index member.kind (text_by file entry member.class) (text_by file entry member.name) (text_by file entry member.descriptor) in
      let three = text_bytes m.class ++ (text_bytes m.name ++ text_bytes m.descriptor) in
      omega (
        arith,
        length-append (member_bytes m) [],
        length-append (number_bytes index) (number_bytes member.kind ++ three),
        length-append (number_bytes member.kind) three,
        length-append (text_bytes m.class) (text_bytes m.name ++ text_bytes m.descriptor),
        length-append (text_bytes m.name) (text_bytes m.descriptor),
        number-within index small,
        short_within member.kind (omega (arith, so)),
        laid_within member.class,
        laid_within member.name,
        laid_within member.descriptor,
      )

  -- a member run of one: two numbers, and three texts
  pub run-within : (index : ℕ) → index < 2 ^ 64 → length (members_bytes (member_by file entry index)) ≤ longest_run
  unfolding member_by
  run-within index small = as_within index small (resolved_by entry index) (kind_small index)
