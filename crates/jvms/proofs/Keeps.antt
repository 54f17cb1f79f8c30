-- What an instruction keeps: checkcast the stack; iinc the stack and all locals but one; all but stores and iinc the locals;
-- athrow and whatever is not listed the whole state.
-- Assumes nothing.
use Prim.Native.Nat.{ℕ, ◌+◌}
use mathlib.Core.Path.{◌≡◌, refl, ◌∙◌, ap}
use mathlib.Core.Bool.{Bool, true, false}
use mathlib.Core.List.{List, [], ◌++◌, append-nil}
use lib.Dec.{T}
use lib.ListN.{take}
use Rattle.basics.specs.Bytes.{byte_at, u16_at}
use Rattle.basics.specs.Choice.{pick}
use Rattle.basics.proofs.Choice.{chosen}
use Rattle.jvms.specs.Laws.{writes_locals, is_listed, WroteOne}
use Rattle.jvms.specs.Machine.{Pool, cited_at, local_at, State, below, topmost, perform, next}
use Rattle.jvms.specs.Stack.{◌⇒◌, Local, indexed, far, Entry, unlisted, does, either_of, loads, stores, increments, throws, Cited, entries, key_at, entry_of, entry_at}
use Rattle.jvms.proofs.Entries.{every_entry}
use Rattle.jvms.proofs.Slots.{below_none, put_back, wrote_one}

-- the entry writes no local
abbrev leaves_locals : Entry → Bool
leaves_locals unlisted = true
leaves_locals (does f) = true
leaves_locals (either_of f others) = true
leaves_locals (loads l f) = true
leaves_locals (stores l f) = false
leaves_locals (increments l f) = false
leaves_locals (throws os) = true

others_leave : (op : ℕ) → T (pick (writes_locals op) true (leaves_locals (entry_of op)))
unfolding entries entry_of
others_leave =
    every_entry (λ op e. pick (writes_locals op) true (leaves_locals e)) tt (λ op. chosen T (writes_locals op) true true tt tt)

module _ {Val : Type 0} where
  module _ (cited : Cited) (code : List ℕ) (own : ℕ → Val) (st : State Val) where
    left : (e : Entry) → T (leaves_locals e) → (perform cited code own st e).locals ≡ st.locals
    left unlisted t = refl
    left (does f) t = refl
    left (either_of f others) t = refl
    left (loads l f) t = refl
    left (stores l f) t = absurd t
    left (increments l f) t = absurd t
    left (throws os) t = refl

    stayed : (e : Entry) → (T (is_listed e) → ⊥) → perform cited code own st e ≡ st
    stayed unlisted n = refl
    stayed (does f) n = absurd (n tt)
    stayed (either_of f others) n = absurd (n tt)
    stayed (loads l f) n = absurd (n tt)
    stayed (stores l f) n = absurd (n tt)
    stayed (increments l f) n = absurd (n tt)
    stayed (throws os) n = refl

    checkcast_stack : (perform cited code own st (entry_of 192)).stack ≡ st.stack
    unfolding entries entry_of
    checkcast_stack =
        ap (λ (r : List Val). below 1 st.stack ++ r) (append-nil (take 1 (topmost 1 st.stack))) ∙ put_back 1 st.stack

    -- iinc of a local, alone or behind `wide`: the stack stays, and the local has the result
    abbrev Increments : Entry → Local → Type 0
    Increments e l =
        ((perform cited code own st e).stack ≡ st.stack)
        × WroteOne st.locals (perform cited code own st e).locals (local_at code st.pc l) (own 0)

    incremented : (l : Local) → Increments (increments l ([] ⇒ [])) l
    incremented l = (
      append-nil (below 0 st.stack) ∙ below_none st.stack,
      wrote_one st.locals (local_at code st.pc l) (own 0),
    )

    iinc_done : Increments (entry_of 132) indexed
    unfolding entries entry_of
    iinc_done = incremented indexed

    wide_iinc_done : Increments (entry_of 388) far
    unfolding entries entry_of
    wide_iinc_done = incremented far

    athrow_state : perform cited code own st (entry_of 191) ≡ st
    unfolding entries entry_of
    athrow_state = refl

  module _ (pool : Pool) (code : List ℕ) (opaque : ℕ → ℕ → Val) (st : State Val) where
    pub iinc_writes :
        key_at code st.pc ≡ 132 →
        ((next pool code opaque st).stack ≡ st.stack)
        × WroteOne st.locals (next pool code opaque st).locals (byte_at code (st.pc + 1)) (opaque st.pc 0)
    iinc_writes e = rw e (iinc_done (cited_at pool code st.pc) code (opaque st.pc) st)

    pub wide_iinc_writes :
        key_at code st.pc ≡ 388 →
        ((next pool code opaque st).stack ≡ st.stack)
        × WroteOne st.locals (next pool code opaque st).locals (u16_at code (st.pc + 2)) (opaque st.pc 0)
    wide_iinc_writes e = rw e (wide_iinc_done (cited_at pool code st.pc) code (opaque st.pc) st)

    pub athrow_stays : key_at code st.pc ≡ 191 → next pool code opaque st ≡ st
    athrow_stays e = rw e (athrow_state (cited_at pool code st.pc) code (opaque st.pc) st)

    pub unlisted-stays : is_listed (entry_at code st.pc) ≡ false → next pool code opaque st ≡ st
    unlisted-stays n =
        stayed (cited_at pool code st.pc) code (opaque st.pc) st (entry_at code st.pc) (λ t. rw n at t)

    pub keeps-locals : writes_locals (key_at code st.pc) ≡ false → (next pool code opaque st).locals ≡ st.locals
    keeps-locals n =
        let op = key_at code st.pc in
        left (cited_at pool code st.pc) code (opaque st.pc) st (entry_of op) (rw n at (others_leave op))

    pub checkcast_keeps :
        key_at code st.pc ≡ 192 →
        ((next pool code opaque st).stack ≡ st.stack) × ((next pool code opaque st).locals ≡ st.locals)
    checkcast_keeps e =
        (rw e (checkcast_stack (cited_at pool code st.pc) code (opaque st.pc) st), keeps-locals (ap writes_locals e))
