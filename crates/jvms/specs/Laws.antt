-- Laws of the plain machine, for every type of values, pool, code, opaque results and state. They name instructions by their keys, the
-- opcodes' numbers in JVMS 6.5 and 256 more after `wide`, so that the tables of entries and formats are held to them. proofs/Laws.antt
-- has their proof.
-- Assumes nothing.
use Rattle.std.specs.Prelude.{ℕ, suc, ◌+◌, ◌-◌, ◌%◌, ◌≤◌, ◌<◌, ◌≡◌, Bool, true, false, T, eqb, leb, length}
use mathlib.Core.List.{List, [], ◌∷◌, ◌++◌, Memᴰ}
use Rattle.basics.specs.Bytes.{byte_at, u16_at, AreBytes}
use Rattle.basics.specs.Choice.{pick, one_of, between}
use Rattle.jvms.specs.Extent.{takes, extent_at}
use Rattle.jvms.specs.Format.{Operand, fixed, widths, format_of}
use Rattle.jvms.specs.Machine.{Pool, State, replaced, next, ran}
use Rattle.jvms.specs.Stack.{Cited, Form, Entry, unlisted, does, either_of, loads, stores, increments, throws, key_at, key_count, entry_of, entry_at}

-- ---- loads and stores, by key

-- iload, fload, aload; iload_0 to iload_3, fload_0 to fload_3, aload_0 to aload_3; wide iload, wide fload, wide aload
abbrev pub one_slot_loads : List ℕ
one_slot_loads = 21 ∷ 23 ∷ 25 ∷ 26 ∷ 27 ∷ 28 ∷ 29 ∷ 34 ∷ 35 ∷ 36 ∷ 37 ∷ 42 ∷ 43 ∷ 44 ∷ 45 ∷ 277 ∷ 279 ∷ 281 ∷ []

-- lload, dload; lload_0 to lload_3, dload_0 to dload_3; wide lload, wide dload
abbrev pub two_slot_loads : List ℕ
two_slot_loads = 22 ∷ 24 ∷ 30 ∷ 31 ∷ 32 ∷ 33 ∷ 38 ∷ 39 ∷ 40 ∷ 41 ∷ 278 ∷ 280 ∷ []

-- istore, fstore, astore; istore_0 to istore_3, fstore_0 to fstore_3, astore_0 to astore_3; wide istore, wide fstore, wide astore
abbrev pub one_slot_stores : List ℕ
one_slot_stores = 54 ∷ 56 ∷ 58 ∷ 59 ∷ 60 ∷ 61 ∷ 62 ∷ 67 ∷ 68 ∷ 69 ∷ 70 ∷ 75 ∷ 76 ∷ 77 ∷ 78 ∷ 310 ∷ 312 ∷ 314 ∷ []

-- lstore, dstore; lstore_0 to lstore_3, dstore_0 to dstore_3; wide lstore, wide dstore
abbrev pub two_slot_stores : List ℕ
two_slot_stores = 55 ∷ 57 ∷ 63 ∷ 64 ∷ 65 ∷ 66 ∷ 71 ∷ 72 ∷ 73 ∷ 74 ∷ 311 ∷ 313 ∷ []

-- The local that a load or store names: after `wide` the two bytes behind the opcode; else the byte behind it, up to the last opcode
-- that has one; above it, the number in the opcode's name, each type having four from 0 to 3 in a row.
abbrev pub local_named : ℕ → List ℕ → ℕ → ℕ
local_named last code pc =
    pick (leb 256 (key_at code pc)) (u16_at code (pc + 2))
    (pick (leb (key_at code pc) last) (byte_at code (pc + 1)) ((key_at code pc - suc last) % 4))

-- aload is 25 and iload_0 is 26
abbrev pub local_loaded : List ℕ → ℕ → ℕ
local_loaded = local_named 25

-- astore is 58 and istore_0 is 59
abbrev pub local_stored : List ℕ → ℕ → ℕ
local_stored = local_named 58

-- a store or iinc, alone or after `wide`: nothing else writes a local
abbrev pub writes_locals : ℕ → Bool
writes_locals key = pick (between 54 78 key) true (pick (between 310 314 key) true (one_of (132 ∷ 388 ∷ []) key))

-- ---- listed instructions and their bytes, by key

-- 0 to 152, nop to dcmpg; 178 to 185, getstatic to invokeinterface; 187 to 195, new to monitorexit; multianewarray; and after `wide`
-- iload to aload, istore to astore, iinc
abbrev pub listed : ℕ → Bool
listed key =
    pick (leb key 152) true
    (pick (between 178 185 key) true
    (pick (between 187 195 key) true
    (pick (between 277 281 key) true (pick (between 310 314 key) true (one_of (197 ∷ 388 ∷ []) key)))))

abbrev pub is_listed : Entry → Bool
is_listed unlisted = false
is_listed (does f) = true
is_listed (either_of f others) = true
is_listed (loads l f) = true
is_listed (stores l f) = true
is_listed (increments l f) = true
is_listed (throws os) = true

-- bipush, ldc; iload to aload; istore to astore; newarray
abbrev pub of_two_bytes : List ℕ
of_two_bytes = 16 ∷ 18 ∷ 21 ∷ 22 ∷ 23 ∷ 24 ∷ 25 ∷ 54 ∷ 55 ∷ 56 ∷ 57 ∷ 58 ∷ 188 ∷ []

-- sipush, ldc_w, ldc2_w; iinc; getstatic, putstatic, getfield, putfield; invokevirtual, invokespecial, invokestatic; new,
-- anewarray; checkcast, instanceof
abbrev pub of_three_bytes : List ℕ
of_three_bytes = 17 ∷ 19 ∷ 20 ∷ 132 ∷ 178 ∷ 179 ∷ 180 ∷ 181 ∷ 182 ∷ 183 ∷ 184 ∷ 187 ∷ 189 ∷ 192 ∷ 193 ∷ []

-- wide iinc has six and the other wide ones four, multianewarray has four, invokeinterface five, and every other listed opcode one
abbrev pub bytes_of : ℕ → ℕ
bytes_of key =
    pick (eqb key 388) 6
    (pick (leb 256 key) 4
    (pick (one_of of_two_bytes key) 2 (pick (one_of of_three_bytes key) 3 (pick (eqb key 197) 4 (pick (eqb key 185) 5 1)))))

-- the instruction at pc has a fixed format, and takes the opcode's byte and those of its operands
pub record FixedSize (code : List ℕ) (pc : ℕ) : Type 0 where
  pub operands : List Operand
  pub format : format_of (byte_at code pc) ≡ fixed operands
  pub extent : extent_at code pc ≡ takes (1 + widths operands)

-- ---- what became of the locals

-- local n holds v, every other what it held
pub record WroteOne {Val : Type 0} (before after : ℕ → Val) (n : ℕ) (v : Val) : Type 0 where
  pub there : after n ≡ v
  pub elsewhere : (i : ℕ) → (i ≡ n → ⊥) → after i ≡ before i

-- local n holds v and n + 1 holds w, every other what it held
pub record WroteTwo {Val : Type 0} (before after : ℕ → Val) (n : ℕ) (v w : Val) : Type 0 where
  pub there : after n ≡ v
  pub behind : after (n + 1) ≡ w
  pub elsewhere : (i : ℕ) → (i ≡ n → ⊥) → (i ≡ n + 1 → ⊥) → after i ≡ before i

-- the same index, stack, and locals 0 to 65,536
pub record Alike {Val : Type 0} (x y : State Val) : Type 0 where
  pub pc : x.pc ≡ y.pc
  pub stack : x.stack ≡ y.stack
  pub locals : (i : ℕ) → i ≤ 65536 → x.locals i ≡ y.locals i

-- the machine behind aload_0, astore_1, aload_1
abbrev pub copied : {Val : Type 0} → Pool → (ℕ → ℕ → Val) → List Val → (ℕ → Val) → State Val
copied pool opaque entering locals =
    ran pool (0x2a ∷ 0x4c ∷ 0x2b ∷ []) opaque 3 (record { pc = 0; stack = entering; locals = locals })

-- ---- the laws

pub record MachineLaws (Val : Type 0) (pool : Pool) (code : List ℕ) (opaque : ℕ → ℕ → Val) : Type 0 where
  -- the key of an instruction: its opcode; after `wide`, 196, it is 256 and the opcode there, and 196 where nothing follows
  pub plain_key : (pc : ℕ) → (byte_at code pc ≡ 196 → ⊥) → key_at code pc ≡ byte_at code pc
  pub wide_key : (pc : ℕ) → byte_at code pc ≡ 196 → pc + 1 < length code → key_at code pc ≡ 256 + byte_at code (pc + 1)
  pub cut_key : (pc : ℕ) → byte_at code pc ≡ 196 → length code ≤ pc + 1 → key_at code pc ≡ 196
  -- istore, fstore, astore: the top slot goes into local n, every other local is as before, and the stack loses this slot
  pub stores_one :
      (st : State Val) (s : List Val) (v : Val) →
      T (one_of one_slot_stores (key_at code st.pc)) → st.stack ≡ s ++ (v ∷ []) →
      ((next pool code opaque st).stack ≡ s)
      × WroteOne st.locals (next pool code opaque st).locals (local_stored code st.pc) v
  -- lstore, dstore: the two top slots go into n and n + 1, the upper one into n + 1
  pub stores_two :
      (st : State Val) (s : List Val) (v w : Val) →
      T (one_of two_slot_stores (key_at code st.pc)) → st.stack ≡ s ++ (v ∷ w ∷ []) →
      ((next pool code opaque st).stack ≡ s)
      × WroteTwo st.locals (next pool code opaque st).locals (local_stored code st.pc) v w
  -- iload, fload, aload: what local n holds is pushed, and no local is changed
  pub loads_one :
      (st : State Val) → T (one_of one_slot_loads (key_at code st.pc)) →
      ((next pool code opaque st).stack ≡ st.stack ++ (st.locals (local_loaded code st.pc) ∷ []))
      × ((next pool code opaque st).locals ≡ st.locals)
  -- lload, dload: what n holds, and on it what n + 1 holds
  pub loads_two :
      (st : State Val) → T (one_of two_slot_loads (key_at code st.pc)) →
      ((next pool code opaque st).stack
      ≡ st.stack ++ (st.locals (local_loaded code st.pc) ∷ st.locals (local_loaded code st.pc + 1) ∷ []))
      × ((next pool code opaque st).locals ≡ st.locals)
  -- iinc: its opaque result goes into the local behind the opcode, every other is as before, and so is the stack
  pub iinc :
      (st : State Val) → key_at code st.pc ≡ 132 →
      ((next pool code opaque st).stack ≡ st.stack)
      × WroteOne st.locals (next pool code opaque st).locals (byte_at code (st.pc + 1)) (opaque st.pc 0)
  -- wide iinc: the same, of the local that the two bytes behind the opcode name
  pub wide_iinc :
      (st : State Val) → key_at code st.pc ≡ 388 →
      ((next pool code opaque st).stack ≡ st.stack)
      × WroteOne st.locals (next pool code opaque st).locals (u16_at code (st.pc + 2)) (opaque st.pc 0)
  -- nothing but a store or iinc changes a local
  pub keeps_locals :
      (st : State Val) → writes_locals (key_at code st.pc) ≡ false → (next pool code opaque st).locals ≡ st.locals
  -- checkcast keeps the locals and every stack, also the empty one: it asks for no slot
  pub checkcast :
      (st : State Val) → key_at code st.pc ≡ 192 →
      ((next pool code opaque st).stack ≡ st.stack) × ((next pool code opaque st).locals ≡ st.locals)
  -- an instruction with several forms does the same to every stack by each
  pub either_form :
      (key : ℕ) (f : Form) (others : List Form) → entry_of key ≡ either_of f others → (g : Form) → Memᴰ g others →
      (cited : Cited) (own : ℕ → Val) (stack : List Val) → replaced cited f own stack ≡ replaced cited g own stack
  -- aload_0, astore_1, aload_1, from any entering stack and locals: local 0 is on top, and in local 1
  pub copies :
      (entering : List Val) (locals : ℕ → Val) →
      ((copied pool opaque entering locals).stack ≡ entering ++ (locals 0 ∷ []))
      × ((copied pool opaque entering locals).locals 1 ≡ locals 0) × ((copied pool opaque entering locals).pc ≡ 3)
  -- no local above 65,536 is read
  pub reads_to65536 :
      AreBytes code → (k : ℕ) (x y : State Val) → Alike x y → Alike (ran pool code opaque k x) (ran pool code opaque k y)
  -- and none is written
  pub writes_to65536 :
      AreBytes code → (k : ℕ) (st : State Val) (i : ℕ) → 65536 < i → (ran pool code opaque k st).locals i ≡ st.locals i
  -- the table lists these instructions and no other
  pub lists : (key : ℕ) → key < key_count → is_listed (entry_of key) ≡ listed key
  -- a listed instruction has a fixed format, but for those after `wide`
  pub fixed_size : (pc : ℕ) → T (is_listed (entry_at code pc)) → key_at code pc < 256 → FixedSize code pc
  -- it takes the bytes counted above
  pub extents : AreBytes code → (pc : ℕ) → T (is_listed (entry_at code pc)) → extent_at code pc ≡ takes (bytes_of (key_at code pc))
  -- the machine goes on behind it; behind an invokeinterface by five bytes
  pub steps :
      AreBytes code → (st : State Val) → T (is_listed (entry_at code st.pc)) → (key_at code st.pc ≡ 191 → ⊥) →
      (next pool code opaque st).pc ≡ st.pc + bytes_of (key_at code st.pc)
  pub invokeinterface : (st : State Val) → key_at code st.pc ≡ 185 → (next pool code opaque st).pc ≡ st.pc + 5
  -- so it leaves every listed instruction but athrow
  pub leaves :
      AreBytes code → (st : State Val) → T (is_listed (entry_at code st.pc)) → (key_at code st.pc ≡ 191 → ⊥) →
      st.pc < (next pool code opaque st).pc
  -- athrow and whatever is not listed change nothing
  pub athrow : (st : State Val) → key_at code st.pc ≡ 191 → next pool code opaque st ≡ st
  pub unlisted_stays : (st : State Val) → is_listed (entry_at code st.pc) ≡ false → next pool code opaque st ≡ st
  -- the index never falls
  pub never_back : (st : State Val) → st.pc ≤ (next pool code opaque st).pc
