-- One turn of each loop over types: what the reader answers from here is what it answers from the start.
-- Assumes nothing.
use Rattle.std.specs.Prelude.{Option, Some, None}
use Prim.Native.Nat.{ℕ, ◌+◌}
use native.Mathlib.Omega.{arith}
use mathlib.Core.Path.{◌≡◌, ap}
use borrow.Author.Tests.{eq-eqb, ne_eqb}
use Rattle.fieldtype.specs.Types.{type_slots, Types, over, unread, one}
use Rattle.descriptor.specs.Readers.{slots_of, judged, starting_at}
use Rattle.fieldtype.specs.declared.FieldType.{FieldType}
use Rattle.descriptor.specs.declared.Params.{Params}
use Rattle.fieldtype.proofs.Bounds.{type_inside}
use Rattle.basics.proofs.Bytes.{byte_past}
use Rattle.descriptor.proofs.Listing.{list_past, list_closed, list_unread, list_one, one_or_two}

-- the parameters of a call, with the slots so far
unfoldable pub call_from : Types → ℕ → Option Params
call_from types slots = judged types (slots + slots_of types)

module _ (here : Types) (slots : ℕ) where
  pub call_first : call_from here 0 ≡ judged here (slots_of here)
  unfolding call_from
  call_first = ap (judged here) (omega arith)

  pub call_turn :
      (t : FieldType) (rest : Types) (more : ℕ) → here ≡ one t rest → more ≡ type_slots t → call_from rest (slots + more) ≡ call_from here slots
  unfolding call_from judged slots_of
  call_turn t rest more e m = rw (e, m) (ap (judged rest) (omega arith))

  pub call_ends : (at : ℕ) → here ≡ over at → Some (record { slots = slots; end = at }) ≡ call_from here slots
  unfolding call_from judged slots_of
  call_ends at e = rw e (ap (λ n. Some (record { slots = n; end = at })) (omega arith))

  pub call_stops : (at : ℕ) → here ≡ unread at → None ≡ call_from here slots
  unfolding call_from judged slots_of
  call_stops at e = rw e

-- the parameter that starts at a slot
module _ (here : Types) (first slot k : ℕ) where
  pub found_now : (t : FieldType) (rest : Types) → here ≡ one t rest → first ≡ slot → Some k ≡ starting_at here first slot k
  unfolding starting_at
  found_now t rest e same = rw (e, eq-eqb first slot same)

  pub found_on :
      (t : FieldType) (rest : Types) (more : ℕ) → here ≡ one t rest → more ≡ type_slots t → (first ≡ slot → ⊥) →
      starting_at rest (first + more) slot (k + 1) ≡ starting_at here first slot k
  unfolding starting_at
  found_on t rest more e m other = rw (e, ne_eqb first slot other, m)

  pub none_over : (at : ℕ) → here ≡ over at → None ≡ starting_at here first slot k
  unfolding starting_at
  none_over at e = rw e

  pub none_unread : (at : ℕ) → here ≡ unread at → None ≡ starting_at here first slot k
  unfolding starting_at
  none_unread at e = rw e

-- for both readers, for `parse_method_params`, and for `parameter_at`
pub ruleset listing = (type_inside, list_past, list_closed, list_unread, list_one, one_or_two)

pub ruleset called = (listing, byte_past, eq-eqb, ne_eqb, call_first, call_turn, call_ends, call_stops)

pub ruleset sought = (listing, found_now, found_on, none_over, none_unread)
