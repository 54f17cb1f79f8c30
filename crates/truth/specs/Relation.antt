-- Condition 3 over any way to write slots, any table of rows that agrees with JVMS, and anything that a slot may say of a
-- value. proofs/Walked.antt has its proof. The walk in each model is one case of it (proofs/Condition.antt).
-- Assumes nothing.
use Rattle.std.specs.Prelude.{ℕ, ◌+◌, ◌≤◌, ◌<◌, ◌≡◌, List, ◌++◌, length}
use Rattle.basics.specs.Bytes.{AreBytes}
use Rattle.basics.specs.Each.{Each}
use Rattle.jvms.specs.Machine.{Pool, State, local_at}
use Rattle.jvms.specs.Stack.{Entry, unlisted, does, either_of, loads, stores, increments, throws, entry_at}
use Rattle.effects.specs.Agreement.{Agreeing}
use Rattle.effects.specs.Lookup.{Lookup}
use Rattle.effects.specs.Rows.{Row}
use Rattle.walk.specs.Walk.{Marks, done, walk}
use Rattle.truth.specs.Condition.{InBlock, Described}
use Rattle.truth.specs.Translation.{since}

-- one value for each slot, and what each slot says of its value is true
abbrev pub Held : {A Val : Type 0} → (A → Val → Type 0) → List A → List Val → Type 0
Held Says slots values = Each Says slots values

-- a block, how its walk writes slots, and a machine that runs it
pub record Setting (A Val : Type 0) : Type 1 where
  pub code : List ℕ
  pub leader : ℕ
  pub fault : ℕ
  pub lookup : Lookup
  pub rows : ℕ → Row
  pub marks : Marks A
  pub pool : Pool
  pub opaque : ℕ → ℕ → Val
  pub entering : List Val
  pub locals : ℕ → Val
  -- what a slot says of a value
  pub Says : A → Val → Type 0

module _ {A Val : Type 0} (s : Setting A Val) where
  abbrev pub machine : ℕ → State Val
  machine = since s.pool s.code s.opaque s.leader s.entering s.locals

  -- the results that are not operands: what the local holds, and the next ones, for a load; else the opaque ones
  abbrev pub own_by : State Val → Entry → ℕ → Val
  own_by st unlisted = s.opaque st.pc
  own_by st (does f) = s.opaque st.pc
  own_by st (either_of f others) = s.opaque st.pc
  own_by st (loads l f) = λ k. st.locals (local_at s.code st.pc l + k)
  own_by st (stores l f) = s.opaque st.pc
  own_by st (increments l f) = s.opaque st.pc
  own_by st (throws os) = s.opaque st.pc

  abbrev pub own : State Val → ℕ → Val
  own st = own_by st (entry_at s.code st.pc)

  -- what the slots that are written here say is true: of what the instruction makes, and of what a local holds
  pub record Speaks (st : State Val) : Type 0 where
    pub made : (k : ℕ) → s.Says (s.marks.blank st.pc) (own st k)
    pub held : (n : ℕ) → n < 65536 → s.Says (s.marks.mark st.pc n) (st.locals n)

  -- what is supposed of the rows, the code and the cited descriptors
  pub record Given : Type 1 where
    pub agrees : Agreeing s.rows
    pub bytes : AreBytes s.code
    pub inside : s.fault < length s.code
    pub described :
        (pc : ℕ) → InBlock s.code s.leader pc → pc ≤ s.fault → Described s.lookup s.pool s.code pc

  -- the machine has run from the leader to the fault, and what lies above the entering stack holds what the slots say
  pub record Translated (slots : List A) (count : ℕ) : Type 0 where
    pub reached : (machine count).pc ≡ s.fault
    pub not_before : (j : ℕ) → j < count → (machine j).pc < s.fault
    pub in_block : InBlock s.code s.leader s.fault
    pub above : List Val
    pub untouched : (machine count).stack ≡ s.entering ++ above
    pub held : Held s.Says slots above

-- where the walk succeeds, and what is written at each instruction is true when it runs
abbrev pub WalkTranslates : Type 1
WalkTranslates =
    (A Val : Type 0) (s : Setting A Val) → Given s → (slots : List A) (count : ℕ) →
    walk s.marks s.rows s.lookup s.code s.fault s.leader ≡ done slots count →
    ((j : ℕ) → j < count → Speaks s (machine s j)) → Translated s slots count
