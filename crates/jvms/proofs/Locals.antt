-- The machine's locals are 0 to 65,536: no other is read, and no other is written.
-- Assumes nothing.
use Prim.Native.Nat.{ℕ, zero, suc, ◌+◌, ◌≤◌, ◌<◌}
use native.Mathlib.Omega.{arith}
use mathlib.Core.Path.{◌≡◌, refl, ◌∙◌, ap, ap₂, subst₂}
use mathlib.Core.Bool.{Bool, true, false}
use mathlib.Core.List.{List, [], ◌∷◌, ◌++◌}
use lib.Dec.{T, eqb, leb, leb→le}
use Rattle.basics.specs.Bytes.{AreBytes}
use Rattle.basics.specs.Choice.{pick, both}
use Rattle.basics.proofs.Bytes.{u16_below}
use Rattle.basics.proofs.Every.{both_first, both_second}
use Rattle.jvms.specs.Laws.{Alike}
use Rattle.jvms.specs.Machine.{Pool, cited_at, local_at, State, bears, below, topmost, run, written, slots_named, results}
use Rattle.jvms.specs.Machine.{perform, next, ran}
use Rattle.jvms.specs.Stack.{Operand, Local, indexed, far, numbered, Entry, unlisted, does, either_of, loads, stores}
use Rattle.jvms.specs.Stack.{increments, throws, name_of, Cited, slots_of, slots_in, entries, key_at, entry_of}
use Rattle.jvms.proofs.Entries.{every_entry, single, single_slots}
use Rattle.jvms.proofs.Slots.{topmost_few, written_beyond}

-- ---- the table's loads and stores are of one or two slots, from a local below 65,536 on

abbrev few : List Operand → Bool
few os = pick (single 1 os) true (single 2 os)

abbrev early : Local → Bool
early indexed = true
early far = true
early (numbered n) = leb n 255

abbrev near : Entry → Bool
near unlisted = true
near (does f) = true
near (either_of f others) = true
near (loads l f) = both (early l) (few f.after)
near (stores l f) = both (early l) (few f.before)
near (increments l f) = early l
near (throws os) = true

all_near : (op : ℕ) → T (near (entry_of op))
unfolding entries entry_of
all_near = every_entry (λ op e. near e) tt (λ op. tt)

few_slots : (cited : Cited) (os : List Operand) → T (few os) → slots_in cited os ≤ 2
few_slots cited os t = by_one (single 1 os) refl t
  where
    by_one : (b : Bool) → single 1 os ≡ b → T (pick b true (single 2 os)) → slots_in cited os ≤ 2
    by_one true e u = omega (arith, single_slots cited 1 os (rw e tt))
    by_one false e u = omega (arith, single_slots cited 2 os u)

early_local : (code : List ℕ) → AreBytes code → (pc : ℕ) (l : Local) → T (early l) → local_at code pc l < 65536
early_local code are pc indexed t = omega (arith, are (pc + 1))
early_local code are pc far t = u16_below code are (pc + 2)
early_local code are pc (numbered n) t = omega (arith, leb→le n 255 t)

module _ {Val : Type 0} where
  -- ---- what is made of locals that agree

  run_same :
      (n k : ℕ) (f g : ℕ → Val) → ((i : ℕ) → i < k + n → f i ≡ g i) → run n k f ≡ run n k g
  run_same zero k f g same = refl
  run_same (suc n) k f g same = ap₂ ◌∷◌ (same k (omega arith)) (run_same n (suc k) f g (λ i h. same i (omega arith)))

  results_same :
      (cited : Cited) (before : List Operand) (taken : List Val) (f g : ℕ → Val) (k : ℕ) (os : List Operand) →
      ((i : ℕ) → i < k + slots_in cited os → f i ≡ g i) →
      results cited before taken f k os ≡ results cited before taken g k os
  results_same cited before taken f g k [] same = refl
  results_same cited before taken f g k (o ∷ os) same =
      ap₂ ◌++◌
      (ap (pick (bears (name_of o) before) (slots_named cited (name_of o) before taken))
      (run_same (slots_of cited o) k f g (λ i h. same i (omega arith))))
      (results_same cited before taken f g (k + slots_of cited o) os (λ i h. same i (omega arith)))

  written_same :
      (f g : ℕ → Val) (n : ℕ) (vs : List Val) (i : ℕ) → f i ≡ g i → written f n vs i ≡ written g n vs i
  written_same f g n [] i same = same
  written_same f g n (v ∷ vs) i same = ap (pick (eqb i n) v) (written_same f g (suc n) vs i same)

  module _ (code : List ℕ) (are : AreBytes code) where
    -- ---- one instruction

    abbrev state : ℕ → List Val → (ℕ → Val) → State Val
    state pc stack locals = record { pc = pc; stack = stack; locals = locals }

    module _ (cited : Cited) (own : ℕ → Val) (pc : ℕ) (stack : List Val) where
      performed_alike :
          (f g : ℕ → Val) → ((i : ℕ) → i ≤ 65536 → f i ≡ g i) → (e : Entry) → T (near e) →
          Alike (perform cited code own (state pc stack f) e) (perform cited code own (state pc stack g) e)
      performed_alike f g same unlisted t = record { pc = refl; stack = refl; locals = same }
      performed_alike f g same (does form) t = record { pc = refl; stack = refl; locals = same }
      performed_alike f g same (either_of form others) t = record { pc = refl; stack = refl; locals = same }
      performed_alike f g same (loads l form) t =
          let local = early_local code are pc l (both_first (early l) (few form.after) t) in
          let slots = few_slots cited form.after (both_second (early l) (few form.after) t) in
          record {
            pc = refl;
            stack =
                ap (λ (r : List Val). below (slots_in cited form.before) stack ++ r)
                (results_same cited form.before (topmost (slots_in cited form.before) stack)
                (λ k. f (local_at code pc l + k)) (λ k. g (local_at code pc l + k)) 0 form.after
                (λ k h. same (local_at code pc l + k) (omega arith)));
            locals = same;
          }
      performed_alike f g same (stores l form) t =
          record {
            pc = refl;
            stack = refl;
            locals =
                λ i h. written_same f g (local_at code pc l) (topmost (slots_in cited form.before) stack) i (same i h);
          }
      performed_alike f g same (increments l form) t =
          record {
            pc = refl;
            stack = refl;
            locals = λ i h. written_same f g (local_at code pc l) (own 0 ∷ []) i (same i h);
          }
      performed_alike f g same (throws os) t = record { pc = refl; stack = refl; locals = same }

    performed_above :
        (cited : Cited) (own : ℕ → Val) (st : State Val) (i : ℕ) → 65536 < i → (e : Entry) → T (near e) →
        (perform cited code own st e).locals i ≡ st.locals i
    performed_above cited own st i above unlisted t = refl
    performed_above cited own st i above (does f) t = refl
    performed_above cited own st i above (either_of f others) t = refl
    performed_above cited own st i above (loads l f) t = refl
    performed_above cited own st i above (stores l f) t =
        let taken = topmost (slots_in cited f.before) st.stack in
        let local = early_local code are st.pc l (both_first (early l) (few f.before) t) in
        let slots = few_slots cited f.before (both_second (early l) (few f.before) t) in
        written_beyond st.locals (local_at code st.pc l) taken i
        (omega (arith, topmost_few (slots_in cited f.before) st.stack))
    performed_above cited own st i above (increments l f) t =
        written_beyond st.locals (local_at code st.pc l) (own 0 ∷ []) i (omega (arith, early_local code are st.pc l t))
    performed_above cited own st i above (throws os) t = refl

    -- ---- and any number of them

    module _ (pool : Pool) (opaque : ℕ → ℕ → Val) where
      abbrev step : State Val → State Val
      step = next pool code opaque

      next_alike : (x y : State Val) → Alike x y → Alike (step x) (step y)
      next_alike x y same =
          let op = key_at code x.pc in
          subst₂ (λ (pc : ℕ) (stack : List Val). Alike (step x) (step (state pc stack y.locals))) same.pc same.stack
          (performed_alike (cited_at pool code x.pc) (opaque x.pc) x.pc x.stack x.locals y.locals
          same.locals (entry_of op) (all_near op))

      pub reads_to_65536 :
          (k : ℕ) (x y : State Val) → Alike x y → Alike (ran pool code opaque k x) (ran pool code opaque k y)
      unfolding ran
      reads_to_65536 zero x y same = same
      reads_to_65536 (suc k) x y same =
          reads_to_65536 k (step x) (step y) (next_alike x y same)

      pub writes_to_65536 :
          (k : ℕ) (st : State Val) (i : ℕ) → 65536 < i → (ran pool code opaque k st).locals i ≡ st.locals i
      unfolding ran
      writes_to_65536 zero st i above = refl
      writes_to_65536 (suc k) st i above =
          let op = key_at code st.pc in
          writes_to_65536 k (step st) i above
          ∙ performed_above (cited_at pool code st.pc) (opaque st.pc) st i above (entry_of op) (all_near op)
