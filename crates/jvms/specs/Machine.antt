-- The plain machine of condition 3 (document 01, "The plain machine"), on values of any type, one to a slot. Written from JVMS
-- 6.5 alone. The stack is a list, bottom first. Locals are a function of every number; nothing above 65,536 is read or written: "The
-- plain machine has locals 0 to 65,536" (document 02, request 7). No instruction throws. One that has no entry or no length is never
-- left, and neither is athrow.
-- Assumes nothing.
use Rattle.std.specs.Prelude.{ℕ, zero, suc, ◌+◌, ◌-◌, Bool, true, false, List, [], ◌∷◌, ◌++◌, eqb, length, take, drop}
use Rattle.basics.specs.Bytes.{byte_at, u16_at}
use Rattle.basics.specs.Choice.{pick}
use Rattle.jvms.specs.Descriptor.{FieldType, MethodType, slots, slots_all, return_slots}
use Rattle.jvms.specs.Extent.{Extent, takes, reserved_opcode, not_widened, low_above_high, negative_pairs, extent_at}
use Rattle.jvms.specs.Stack.{Name, objectref, arrayref, Operand, Form, Local, indexed, far, numbered, Entry, unlisted, does, either_of, loads, stores, increments, throws}
use Rattle.jvms.specs.Stack.{Cited, slots_of, slots_in, name_of, same_name, entry_at, operands_of}

-- what each pool index stands for, as trees of JVMS 4.3
pub record Pool : Type 0 where
  pub field : ℕ → FieldType
  pub method : ℕ → MethodType

-- the slots of the member that the instruction at pc cites by "(indexbyte1 << 8) | indexbyte2"; and behind that index "the
-- dimensions operand is an unsigned byte"
abbrev pub cited_at : Pool → List ℕ → ℕ → Cited
cited_at pool code pc =
    record {
      field = slots (pool.field (u16_at code (pc + 1)));
      args = slots_all (pool.method (u16_at code (pc + 1))).parameters;
      gives = return_slots (pool.method (u16_at code (pc + 1))).result;
      dims = byte_at code (pc + 3);
    }

-- "The index is an unsigned byte"; behind `wide` and an opcode it is "(indexbyte1 << 8) | indexbyte2"; or it stands in the opcode's
-- name
abbrev pub local_at : List ℕ → ℕ → Local → ℕ
local_at code pc indexed = byte_at code (pc + 1)
local_at code pc far = u16_at code (pc + 2)
local_at code pc (numbered n) = n

-- the bytes of the instruction at pc, by its format
abbrev pub size_of : Extent → ℕ
size_of (takes n) = n
size_of reserved_opcode = 0
size_of not_widened = 0
size_of low_above_high = 0
size_of negative_pairs = 0

pub record State (Val : Type 0) : Type 0 where
  pub pc : ℕ
  pub stack : List Val
  pub locals : ℕ → Val

-- an operand has this name
abbrev pub bears : Name → List Operand → Bool
bears name [] = false
bears name (o ∷ os) = pick (same_name name (name_of o)) true (bears name os)

-- the name of what is dereferenced
abbrev pub is_reference : Name → Bool
is_reference name = pick (same_name name objectref) true (same_name name arrayref)

module _ {Val : Type 0} where
  -- the stack below its topmost slots, and these
  abbrev pub below : ℕ → List Val → List Val
  below n stack = take (length stack - n) stack

  abbrev pub topmost : ℕ → List Val → List Val
  topmost n stack = drop (length stack - n) stack

  -- n values from the k-th on
  abbrev pub run : ℕ → ℕ → (ℕ → Val) → List Val
  run zero k f = []
  run (suc n) k f = f k ∷ run n (suc k) f

  -- locals with values written from n on
  abbrev pub written : (ℕ → Val) → ℕ → List Val → ℕ → Val
  written locals n [] i = locals i
  written locals n (v ∷ vs) i = pick (eqb i n) v (written locals (suc n) vs i)

  module _ (cited : Cited) where
    -- of the slots of all operands, those of the operand with a name
    abbrev pub slots_named : Name → List Operand → List Val → List Val
    slots_named name [] taken = []
    slots_named name (o ∷ os) taken =
        pick (same_name name (name_of o)) (take (slots_of cited o) taken) (slots_named name os (drop (slots_of cited o) taken))

    -- "the one dereferenced is that which JVMS names objectref or arrayref"
    abbrev pub dereferenced : List Operand → List Val → List Val
    dereferenced [] taken = []
    dereferenced (o ∷ os) taken =
        pick (is_reference (name_of o)) (take (slots_of cited o) taken) (dereferenced os (drop (slots_of cited o) taken))

    -- A result that has an operand's name is that operand. Any other is the instruction's own, slot by slot from the k-th on.
    abbrev pub results : List Operand → List Val → (ℕ → Val) → ℕ → List Operand → List Val
    results before taken own k [] = []
    results before taken own k (o ∷ os) =
        pick (bears (name_of o) before) (slots_named (name_of o) before taken) (run (slots_of cited o) k own)
        ++ results before taken own (k + slots_of cited o) os

    -- the operands are taken from the top, and the results stand in their place
    abbrev pub replaced : Form → (ℕ → Val) → List Val → List Val
    replaced form own stack =
        below (slots_in cited form.before) stack
        ++ results form.before (topmost (slots_in cited form.before) stack) own 0 form.after

    -- opaque: the results that the instruction itself makes
    module _ (code : List ℕ) (opaque : ℕ → Val) (st : State Val) where
      abbrev pub onward : List Val → (ℕ → Val) → State Val
      onward stack locals = record { pc = st.pc + size_of (extent_at code st.pc); stack = stack; locals = locals }

      abbrev pub perform : Entry → State Val
      perform unlisted = st
      perform (does f) = onward (replaced f opaque st.stack) st.locals
      perform (either_of f others) = onward (replaced f opaque st.stack) st.locals
      perform (loads l f) = onward (replaced f (λ k. st.locals (local_at code st.pc l + k)) st.stack) st.locals
      perform (stores l f) =
          onward (replaced f opaque st.stack)
          (written st.locals (local_at code st.pc l) (topmost (slots_in cited f.before) st.stack))
      perform (increments l f) =
          onward (replaced f opaque st.stack) (written st.locals (local_at code st.pc l) (opaque 0 ∷ []))
      perform (throws os) = st

  -- opaque: each instruction's own results, by its index and their number. A block runs each index once.
  module _ (pool : Pool) (code : List ℕ) (opaque : ℕ → ℕ → Val) where
    abbrev pub next : State Val → State Val
    next st = perform (cited_at pool code st.pc) code (opaque st.pc) st (entry_at code st.pc)

    -- the state after so many instructions
    unfoldable pub ran : ℕ → State Val → State Val
    ran zero st = st
    ran (suc k) st = ran k (next st)

  -- what the instruction here would dereference: "it takes the operands that JVMS 6.5 lists for the instruction, the last from
  -- the top"
  unfoldable pub target : Pool → List ℕ → State Val → List Val
  target pool code st =
      let cited : Cited = cited_at pool code st.pc in
      let operands : List Operand = operands_of (entry_at code st.pc) in
      dereferenced cited operands (topmost (slots_in cited operands) st.stack)
