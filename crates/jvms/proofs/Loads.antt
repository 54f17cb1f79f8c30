-- A load pushes what its local holds, and what the next one holds for two slots, and changes no local.
-- Assumes nothing.
use Prim.Native.Nat.{ℕ, ◌+◌}
use native.Mathlib.Nat.{add-zero}
use mathlib.Core.Path.{◌≡◌, refl, ◌∙◌, ap, ap₂}
use mathlib.Core.List.{List, [], ◌∷◌, ◌++◌, append-nil}
use lib.Dec.{T}
use Rattle.basics.specs.Choice.{both, one_of}
use Rattle.basics.proofs.Every.{both_first, both_second}
use Rattle.jvms.specs.Laws.{one_slot_loads, two_slot_loads, local_loaded}
use Rattle.jvms.specs.Machine.{Pool, cited_at, local_at, State, topmost, run, results, replaced, perform, next}
use Rattle.jvms.specs.Stack.{Operand, ◌⇒◌, Entry, unlisted, does, either_of, loads, stores, increments, throws}
use Rattle.jvms.specs.Stack.{Cited, slots_of, key_at, entry_of}
use Rattle.jvms.proofs.Entries.{single, weighed, is_none, none_is, names, named, is_load, one-slot-loads, two-slot-loads}
use Rattle.jvms.proofs.Slots.{below_none}

module _ {Val : Type 0} where
  -- a single result that is no operand is the instruction's own
  single_own :
      (cited : Cited) (taken : List Val) (own : ℕ → Val) (slots : ℕ) (os : List Operand) → T (single slots os) →
      results cited [] taken own 0 os ≡ run slots 0 own
  single_own cited taken own slots [] t = absurd t
  single_own cited taken own slots (o ∷ []) t =
      append-nil (run (slots_of cited o) 0 own) ∙ ap (λ (n : ℕ). run n 0 own) (weighed cited slots o t)
  single_own cited taken own slots (o ∷ p ∷ os) t = absurd t

  module _ (cited : Cited) (code : List ℕ) (own : ℕ → Val) (st : State Val) (slots : ℕ) where
    loaded :
        (e : Entry) → T (is_load slots (key_at code st.pc) e) →
        ((perform cited code own st e).stack ≡ st.stack ++ run slots 0 (λ k. st.locals (local_loaded code st.pc + k)))
        × ((perform cited code own st e).locals ≡ st.locals)
    loaded unlisted t = absurd t
    loaded (does f) t = absurd t
    loaded (either_of f others) t = absurd t
    loaded (loads l f) t =
        let naming = names 25 l (key_at code st.pc) in
        let none = is_none f.before in
        let one = single slots f.after in
        let form = both_second naming (both none one) t in
        let local = named 25 l code st.pc (both_first naming (both none one) t) in
        let held : ℕ → Val = λ k. st.locals (local_at code st.pc l + k) in
        let takes = none_is f.before (both_first none one form) in (
          ap (λ (os : List Operand). replaced cited (os ⇒ f.after) held st.stack) takes
              ∙ ap₂ ◌++◌ (below_none st.stack)
              (single_own cited (topmost 0 st.stack) held slots f.after (both_second none one form))
              ∙ ap (λ (n : ℕ). st.stack ++ run slots 0 (λ k. st.locals (n + k))) local,
          refl,
        )
    loaded (stores l f) t = absurd t
    loaded (increments l f) t = absurd t
    loaded (throws os) t = absurd t

  module _ (pool : Pool) (code : List ℕ) (opaque : ℕ → ℕ → Val) (st : State Val) where
    pub loads-one :
        T (one_of one_slot_loads (key_at code st.pc)) →
        ((next pool code opaque st).stack ≡ st.stack ++ (st.locals (local_loaded code st.pc) ∷ []))
        × ((next pool code opaque st).locals ≡ st.locals)
    loads-one among =
        let op = key_at code st.pc in
        let n = local_loaded code st.pc in
        let left = loaded (cited_at pool code st.pc) code (opaque st.pc) st 1 (entry_of op) (one-slot-loads op among) in
        (left.0 ∙ ap (λ (i : ℕ). st.stack ++ (st.locals i ∷ [])) (add-zero n), left.1)

    pub loads-two :
        T (one_of two_slot_loads (key_at code st.pc)) →
        ((next pool code opaque st).stack
        ≡ st.stack ++ (st.locals (local_loaded code st.pc) ∷ st.locals (local_loaded code st.pc + 1) ∷ []))
        × ((next pool code opaque st).locals ≡ st.locals)
    loads-two among =
        let op = key_at code st.pc in
        let n = local_loaded code st.pc in
        let left = loaded (cited_at pool code st.pc) code (opaque st.pc) st 2 (entry_of op) (two-slot-loads op among) in
        (left.0 ∙ ap (λ (i : ℕ). st.stack ++ (st.locals i ∷ st.locals (n + 1) ∷ [])) (add-zero n), left.1)
