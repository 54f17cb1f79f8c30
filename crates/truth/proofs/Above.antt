-- The machine's stack as the entering one with a value for each slot above it, and what an instruction makes of both.
-- Assumes nothing.
use Prim.Native.Nat.{ℕ, ◌+◌, ◌-◌, ◌≤◌, ◌<◌}
use native.Mathlib.Nat.{add-zero}
use native.Mathlib.Omega.{arith}
use mathlib.Core.Path.{◌≡◌, refl, ◌∙◌, ap, subst}
use mathlib.Core.List.{List, [], ◌∷◌, ◌++◌, append_assoc}
use lib.ListN.{length, take, replicate}
use Rattle.basics.specs.Bytes.{byte_at, u16_at}
use Rattle.basics.specs.Each.{none, one}
use Rattle.basics.proofs.Bytes.{u16_below}
use Rattle.basics.proofs.Each.{each_length, each_take, each_append}
use Rattle.jvms.specs.Machine.{State, cited_at, local_at, below, topmost, run}
use Rattle.jvms.specs.Stack.{Local, indexed, far, numbered, Entry, unlisted, does, either_of, loads, stores, increments, throws, Cited, key_at, entry_at}
use Rattle.effects.specs.Agreement.{taken_by, Carried, Pushed, local_of, Details}
use Rattle.effects.specs.Rows.{Row, unmodelled, opaque, aload, aload_far, aload_of, carries, keeps, gets, calls, puts, makes}
use Rattle.walk.specs.Walk.{Push}
use Rattle.truth.specs.Relation.{Held, Setting, own_by, own, Speaks, Given}
use Rattle.truth.proofs.Carried.{held_carried}
use Rattle.truth.proofs.Held.{held_run}
use Rattle.truth.proofs.Machine.{below_over}
use Rattle.truth.proofs.Reading.{push_for}
use Rattle.walk.proofs.Step.{pushes, Applied}

no_local : {P : Type 0} {l : Local} → [] ≡ l ∷ [] → P
no_local e = let z : ◌≡◌ {A = ℕ} 0 1 = cc in absurd (omega arith)

module _ {A Val : Type 0} (s : Setting A Val) where
  pub record Above (list : List A) (stack : List Val) : Type 0 where
    pub above : List Val
    pub untouched : stack ≡ s.entering ++ above
    pub held : Held s.Says list above

  -- ---- slots that are taken

  -- the same number is taken from the slots and from the values
  pub moved :
      (pc : ℕ) (list : List A) (takes : ℕ) (push : Push) (slots : List A) (stack stack' put : List Val) →
      Above list stack → Applied s.marks pc list takes push slots → stack' ≡ below takes stack ++ put →
      Held s.Says (pushes s.marks pc list push) put → Above slots stack'
  moved pc list takes push slots stack stack' put a went e h =
      let size : length list ≡ length a.above = each_length a.held in
      let kept : Held s.Says (take (length list - takes) list) (below takes a.above) =
      subst (λ (n : ℕ). Held s.Says (take (length list - takes) list) (take (n - takes) a.above)) size
      (each_take (length list - takes) a.held) in
      let enough : takes ≤ length a.above = omega (arith, went.enough) in
      record {
        above = below takes a.above ++ put;
        untouched = e
            ∙ ap (λ (l : List Val). below takes l ++ put) a.untouched
            ∙ ap (λ (l : List Val). l ++ put) (below_over takes s.entering a.above enough)
            ∙ append_assoc s.entering (below takes a.above) put;
        held = rw went.left (each_append kept h);
      }

  -- ---- slots that are pushed

  module _ (given : Given s) (st : State Val) (speaks : Speaks s st) where
    abbrev cited : Cited
    cited = cited_at s.pool s.code st.pc

    abbrev blank : A
    blank = s.marks.blank st.pc

    -- the first of what a load of a local makes is what the local holds
    loaded_first :
        (entry : Entry) (l : Local) → local_of entry ≡ l ∷ [] → own_by s st entry 0 ≡ st.locals (local_at s.code st.pc l)
    loaded_first unlisted l e = no_local e
    loaded_first (does f) l e = no_local e
    loaded_first (either_of f others) l e = no_local e
    loaded_first (loads m f) l e =
        let same : m ≡ l = cc in
        rw same (ap (λ (n : ℕ). st.locals n) (add-zero (local_at s.code st.pc l)))
    loaded_first (stores m f) l e = no_local e
    loaded_first (increments m f) l e = no_local e
    loaded_first (throws os) l e = no_local e

    held_blanks : (n : ℕ) (put : List Val) → put ≡ run n 0 (own s st) → Held s.Says (replicate n blank) put
    held_blanks n put e = rw e (held_run n 0 blank (own s st) speaks.made)

    held_mark :
        (local : ℕ) (l : Local) (put : List Val) → local < 65536 → local_at s.code st.pc l ≡ local →
        local_of (entry_at s.code st.pc) ≡ l ∷ [] → put ≡ run 1 0 (own s st) →
        Held s.Says (s.marks.mark st.pc local ∷ []) put
    held_mark local l put small there e q =
        let holds : own s st 0 ≡ st.locals local =
        loaded_first (entry_at s.code st.pc) l e ∙ ap (λ (n : ℕ). st.locals n) there in
        rw (q, holds) (one (speaks.held local small) none)

    pub held_pushed :
        (list : List A) (row : Row) (put : List Val) → Above list st.stack → Details row (key_at s.code st.pc) →
        taken_by row cited ≤ length list → Pushed row cited (topmost (taken_by row cited) st.stack) (own s st) put →
        Held s.Says (pushes s.marks st.pc list (push_for s.pool s.code st.pc row)) put
    held_pushed list unmodelled put a details enough e = rw e none
    held_pushed list (opaque taken n) put a details enough e = held_blanks n put e
    held_pushed list aload put a details enough e =
        held_mark (byte_at s.code (st.pc + 1)) indexed put (omega (arith, given.bytes (st.pc + 1))) refl details e
    held_pushed list aload_far put a details enough e =
        held_mark (u16_at s.code (st.pc + 2)) far put (u16_below s.code given.bytes (st.pc + 2)) refl details e
    held_pushed list (aload_of local) put a details enough e =
        held_mark local (numbered local) put (omega (arith, details.1)) refl details.0 e
    held_pushed list (carries taken places) put a details enough e =
        held_carried blank (s.opaque 0 0) s.entering a.above list a.held taken enough places details put
        (subst (λ (l : List Val). Carried places (topmost taken l) put) a.untouched e)
    held_pushed list keeps put a details enough e = rw e none
    held_pushed list (gets taken) put a details enough e = held_blanks cited.field put e
    held_pushed list (calls taken) put a details enough e = held_blanks cited.gives put e
    held_pushed list (puts taken) put a details enough e = rw e none
    held_pushed list makes put a details enough e = held_blanks 1 put e
