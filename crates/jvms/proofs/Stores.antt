-- A store puts the slots that it takes into its local, and into the next one for two, and the stack loses these slots.
-- Assumes nothing.
use Prim.Native.Nat.{ℕ}
use mathlib.Core.Path.{◌≡◌, ◌∙◌, ap}
use mathlib.Core.List.{List, [], ◌∷◌, ◌++◌, append-nil}
use lib.Dec.{T}
use lib.ListN.{length}
use Rattle.basics.specs.Choice.{both, one_of}
use Rattle.basics.proofs.Every.{both_first, both_second}
use Rattle.jvms.specs.Laws.{one_slot_stores, two_slot_stores, local_stored, WroteOne, WroteTwo}
use Rattle.jvms.specs.Machine.{Pool, cited_at, State, below, topmost, written, results, perform, next}
use Rattle.jvms.specs.Stack.{Operand, Entry, unlisted, does, either_of, loads, stores, increments, throws}
use Rattle.jvms.specs.Stack.{Cited, slots_in, key_at, entry_of}
use Rattle.jvms.proofs.Entries.{single, single_slots, is_none, none_is, names, named, is_store}
use Rattle.jvms.proofs.Entries.{one-slot-stores, two-slot-stores}
use Rattle.jvms.proofs.Slots.{below_them, topmost_them, wrote_one, wrote_two}

module _ {Val : Type 0} where
  -- the state has this stack and these locals
  record Left (after : State Val) (stack : List Val) (locals : ℕ → Val) : Type 0 where
    stack_is : after.stack ≡ stack
    locals_are : after.locals ≡ locals

  module _ (cited : Cited) (code : List ℕ) (own : ℕ → Val) (st : State Val) (s vs : List Val) (on : st.stack ≡ s ++ vs) where
    stored :
        (e : Entry) → T (is_store (length vs) (key_at code st.pc) e) →
        Left (perform cited code own st e) s (written st.locals (local_stored code st.pc) vs)
    stored unlisted t = absurd t
    stored (does f) t = absurd t
    stored (either_of f others) t = absurd t
    stored (loads l f) t = absurd t
    stored (stores l f) t =
        let naming = names 58 l (key_at code st.pc) in
        let one = single (length vs) f.before in
        let none = is_none f.after in
        let form = both_second naming (both one none) t in
        let local = named 58 l code st.pc (both_first naming (both one none) t) in
        let slots = single_slots cited (length vs) f.before (both_first one none form) in
        let gives = none_is f.after (both_second one none form) in
        let under = below (slots_in cited f.before) st.stack in
        let taken = topmost (slots_in cited f.before) st.stack in
        record {
          stack_is =
              ap (λ (os : List Operand). under ++ results cited f.before taken own 0 os) gives ∙ append-nil under
              ∙ ap (λ (n : ℕ). below n st.stack) slots ∙ ap (below (length vs)) on ∙ below_them s vs;
          locals_are =
              ap (λ (n : ℕ). written st.locals n taken) local
              ∙ ap (written st.locals (local_stored code st.pc))
              (ap (λ (n : ℕ). topmost n st.stack) slots ∙ ap (topmost (length vs)) on ∙ topmost_them s vs);
        }
    stored (increments l f) t = absurd t
    stored (throws os) t = absurd t

  module _ (pool : Pool) (code : List ℕ) (opaque : ℕ → ℕ → Val) (st : State Val) where
    pub stores-one :
        (s : List Val) (v : Val) → T (one_of one_slot_stores (key_at code st.pc)) → st.stack ≡ s ++ (v ∷ []) →
        ((next pool code opaque st).stack ≡ s)
        × WroteOne st.locals (next pool code opaque st).locals (local_stored code st.pc) v
    stores-one s v among on =
        let op = key_at code st.pc in
        let cited = cited_at pool code st.pc in
        let left = stored cited code (opaque st.pc) st s (v ∷ []) on (entry_of op) (one-slot-stores op among) in
        (left.stack_is, rw left.locals_are (wrote_one st.locals (local_stored code st.pc) v))

    pub stores-two :
        (s : List Val) (v w : Val) → T (one_of two_slot_stores (key_at code st.pc)) → st.stack ≡ s ++ (v ∷ w ∷ []) →
        ((next pool code opaque st).stack ≡ s)
        × WroteTwo st.locals (next pool code opaque st).locals (local_stored code st.pc) v w
    stores-two s v w among on =
        let op = key_at code st.pc in
        let cited = cited_at pool code st.pc in
        let left = stored cited code (opaque st.pc) st s (v ∷ w ∷ []) on (entry_of op) (two-slot-stores op among) in
        (left.stack_is, rw left.locals_are (wrote_two st.locals (local_stored code st.pc) v w))
