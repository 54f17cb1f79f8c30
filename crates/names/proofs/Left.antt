-- What is left to write of a parameter list, from an index of the descriptor on.
-- Assumes nothing.
use Prim.Native.Nat.{ℕ, ◌≤◌, ◌<◌}
use native.Mathlib.Omega.{arith}
use mathlib.Core.Path.{◌≡◌, refl, ◌∙◌, sym, ap, subst}
use mathlib.Core.Bool.{Bool, true, false}
use mathlib.Core.List.{List, [], ◌∷◌, ◌++◌, append_assoc, append-nil}
use lib.Dec.{eqb}
use lib.ListN.{length}
use borrow.Author.Tests.{ne_eqb}
use Rattle.basics.specs.Ascii.{ascii}
use Rattle.basics.specs.Choice.{pick}
use Rattle.fieldtype.specs.Types.{over, unread, one, types_at, types_of}
use Rattle.fieldtype.specs.declared.FieldType.{FieldType}
use Rattle.text.specs.Writing.{most, Written}
use Rattle.text.proofs.Writing.{written_then, written_none, written_length}
use Rattle.fieldtype.proofs.Bounds.{type_inside}
use Rattle.descriptor.proofs.Listing.{list_one}
use Rattle.names.specs.Names.{type_name, type_names, commaed, joined, parameter_names}
use Rattle.names.specs.Commas.{comma_before}

-- the first parameter stands at index 1
unfoldable pub names_left : List ℕ → ℕ → List ℕ
names_left text index =
    pick (eqb index 1) (joined (type_names text (types_at text index))) (commaed (type_names text (types_at text index)))

nothing : (t : Bool) → pick t (joined []) (commaed []) ≡ []
unfolding joined commaed
nothing true = refl
nothing false = refl

first_or_not :
    (t : Bool) (name : List ℕ) (names : List (List ℕ)) →
    pick t (joined (name ∷ names)) (commaed (name ∷ names)) ≡ (pick t [] (ascii ", ") ++ name) ++ commaed names
unfolding joined commaed
first_or_not true name names = refl
first_or_not false name names = sym (append_assoc (ascii ", ") name (commaed names))

module _ (text : List ℕ) (index : ℕ) where
  left_over : (end : ℕ) → types_at text index ≡ over end → names_left text index ≡ []
  unfolding names_left type_names
  left_over end e = rw e (nothing (eqb index 1))

  left_unread : (at : ℕ) → types_at text index ≡ unread at → names_left text index ≡ []
  unfolding names_left type_names
  left_unread at e = rw e (nothing (eqb index 1))

  left_one :
      (t : FieldType) → types_at text index ≡ one t (types_at text t.next) → 1 < t.next →
      names_left text index ≡ (comma_before index ++ type_name text t) ++ names_left text t.next
  unfolding names_left type_names
  left_one t e later =
      rw (e, ne_eqb t.next 1 (λ same. omega (arith, same)))
      (first_or_not (eqb index 1) (type_name text t) (type_names text (types_at text t.next)))

-- so far: a text is written, and with what is left it is the whole list
pub record SoFar (text : List ℕ) (at : ℕ) (out : List ℕ) (index next : ℕ) (now : List ℕ) : Type 0 where
  pub done : List ℕ
  pub written : Written at done out next now
  pub whole : done ++ names_left text index ≡ parameter_names text

pub at_first : (text : List ℕ) (at : ℕ) (out : List ℕ) → at ≤ most → SoFar text at out 1 at out
unfolding parameter_names types_of names_left
at_first text at out low = record { done = []; written = written_none out low; whole = refl }

module _ {text : List ℕ} {at : ℕ} {out : List ℕ} {index next : ℕ} {now : List ℕ} (far : SoFar text at out index next now) where
  -- one parameter more
  pub one_more :
      (t : FieldType) (next' : ℕ) (now' : List ℕ) → length out ≤ most → types_at text index ≡ one t (types_at text t.next) → 1 < t.next →
      Written next (comma_before index ++ type_name text t) now next' now' → SoFar text at out t.next next' now'
  one_more t next' now' short e later more =
      record {
        done = far.done ++ (comma_before index ++ type_name text t);
        written = written_then short far.written more;
        whole =
            append_assoc far.done (comma_before index ++ type_name text t) (names_left text t.next)
            ∙ ap (λ (l : List ℕ). far.done ++ l) (sym (left_one text index t e later))
            ∙ far.whole;
      }

  all_done : names_left text index ≡ [] → Written at (parameter_names text) out next now
  all_done none =
      let same : far.done ≡ parameter_names text = sym (append-nil far.done) ∙ ap (λ (l : List ℕ). far.done ++ l) (sym none) ∙ far.whole in
      subst (λ (l : List ℕ). Written at l out next now) same far.written

  -- the list is over, or can't be read any further
  pub over_now : (end : ℕ) → types_at text index ≡ over end → Written at (parameter_names text) out next now
  over_now end e = all_done (left_over text index end e)

  pub unread_now : (place : ℕ) → types_at text index ≡ unread place → Written at (parameter_names text) out next now
  unread_now place e = all_done (left_unread text index place e)

-- for a turn of `put_params_at`
pub ruleset listed = (type_inside, list_one, at_first, one_more, written_length)
