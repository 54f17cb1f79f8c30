-- A lookup, one member further; and that it finds nothing at or below the last index, since indexes rise.
-- Assumes nothing.
use Rattle.std.specs.Prelude.{Option, Some, None, Result, Ok, Err}
use Prim.Native.Nat.{ℕ, zero, suc, ◌≤◌, ◌<◌}
use native.Mathlib.Omega.{arith}
use mathlib.Core.Path.{◌≡◌, refl}
use mathlib.Core.Bool.{Bool, true, false}
use mathlib.Core.List.{List, []}
use lib.Dec.{eqb, ltb, leb}
use borrow.Author.Tests.{ltb-true, ne_eqb}
use Rattle.basics.specs.Choice.{pick}
use Rattle.number.specs.Number.{greatest, number_at, then_number}
use Rattle.tables.specs.Layout.{three_texts, ended, run_by, then_run}
use Rattle.tables.specs.Member.{member_at, then_member}
use Rattle.tables.specs.declared.MemberPlace.{MemberPlace}
use Rattle.lookup.specs.Lookup.{texts_of, member_found}

pub found_turn :
    (bytes : List ℕ) (index kind left rest last at : ℕ) → left ≡ suc rest →
    member_found bytes index kind left last at
    ≡ then_member (member_at bytes last at) (λ wrong. []) (λ place.
    pick (eqb place.index index) (pick (eqb place.kind kind) (texts_of bytes place) [])
    (member_found bytes index kind rest place.index place.next))
unfolding member_found
found_turn bytes index kind left rest last at e = rw e refl

-- ---- indexes rise

abbrev pub Above : ℕ → Result MemberPlace ℕ → Type 0
Above last (Ok place) = last < place.index
Above last (Err place) = Unit {0}

pub member_above : (bytes : List ℕ) (last at : ℕ) → Above last (member_at bytes last at)
unfolding member_at
member_above bytes last at = by_index (number_at greatest bytes at)
  where
    texted : ℕ → ℕ → ℕ → Result ℕ ℕ → Result MemberPlace ℕ
    texted index kind texts r =
        then_run r (λ place. Err place) (λ next.
        Ok (record { index = index; kind = kind; texts = texts; next = next }))

    kinded : ℕ → ℕ → Option (ℕ × ℕ) → Result MemberPlace ℕ
    kinded index kind_at n =
        then_number n (Err kind_at) (λ kind texts.
        pick (leb kind 1) (texted index kind texts (run_by (three_texts ended) bytes texts)) (Err kind_at))

    by_texts : (index kind texts : ℕ) → last < index → (r : Result ℕ ℕ) → Above last (texted index kind texts r)
    by_texts index kind texts above (Ok next) = above
    by_texts index kind texts above (Err place) = tt

    by_kind_rule :
        (index kind_at kind texts : ℕ) → last < index → (t : Bool) →
        Above last (pick t (texted index kind texts (run_by (three_texts ended) bytes texts)) (Err kind_at))
    by_kind_rule index kind_at kind texts above true = by_texts index kind texts above (run_by (three_texts ended) bytes texts)
    by_kind_rule index kind_at kind texts above false = tt

    by_kind : (index kind_at : ℕ) → last < index → (n : Option (ℕ × ℕ)) → Above last (kinded index kind_at n)
    by_kind index kind_at above (Some (kind, texts)) = by_kind_rule index kind_at kind texts above (leb kind 1)
    by_kind index kind_at above None = tt

    by_index_rule :
        (index kind_at : ℕ) (t : Bool) → ltb last index ≡ t →
        Above last (pick t (kinded index kind_at (number_at greatest bytes kind_at)) (Err at))
    by_index_rule index kind_at true e = by_kind index kind_at (ltb-true last index e) (number_at greatest bytes kind_at)
    by_index_rule index kind_at false e = tt

    by_index :
        (n : Option (ℕ × ℕ)) →
        Above last
        (then_number n (Err at) (λ index kind_at.
        pick (ltb last index) (kinded index kind_at (number_at greatest bytes kind_at)) (Err at)))
    by_index (Some (index, kind_at)) = by_index_rule index kind_at (ltb last index) refl
    by_index None = tt

-- at or below the last index none is found
pub found_none :
    (bytes : List ℕ) (index kind left last at : ℕ) → index ≤ last → member_found bytes index kind left last at ≡ []
unfolding member_found
found_none bytes index kind zero last at below = refl
found_none bytes index kind (suc left) last at below =
    by_member (member_at bytes last at) (member_above bytes last at)
    (λ place small. found_none bytes index kind left place.index place.next small)
  where
    by_member :
        (m : Result MemberPlace ℕ) → Above last m →
        ((place : MemberPlace) → index ≤ place.index → member_found bytes index kind left place.index place.next ≡ []) →
        then_member m (λ wrong. []) (λ place.
        pick (eqb place.index index) (pick (eqb place.kind kind) (texts_of bytes place) [])
        (member_found bytes index kind left place.index place.next))
        ≡ []
    by_member (Ok place) above rest =
        let other : place.index ≡ index → ⊥ = λ e. omega (arith, e) in
        rw (ne_eqb place.index index other) (rest place (omega arith))
    by_member (Err place) above rest = refl
