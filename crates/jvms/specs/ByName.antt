-- Instructions by name, or by number where many are alike, each run alone on a stack that is written out, bottom first, so that each
-- line can be held to JVMS 6.5 at a glance. Values are any values a, b, c, d, e; `opaque 0 k` is the k-th slot that the instruction at 0 makes itself. proofs/ByName.antt
-- has their proof.
-- Assumes nothing.
use Rattle.std.specs.Prelude.{ℕ, ◌≡◌, List, [], ◌∷◌}
use Rattle.jvms.specs.Descriptor.{FieldType, ReturnType, int, long, double, base, void, typed}
use Rattle.jvms.specs.Machine.{Pool, State, next, target}

-- a pool in which every field has one type, and every method one list of parameters and one result
abbrev pub of_type : FieldType → List FieldType → ReturnType → Pool
of_type t parameters result =
    record { field = λ index. t; method = λ index. record { parameters = parameters; result = result } }

-- a field I and a method (I)V; a field J and a method (IJ)D
abbrev pub small : Pool
small = of_type (base int) (base int ∷ []) void

abbrev pub large : Pool
large = of_type (base long) (base int ∷ base long ∷ []) (typed (base double))

module _ {Val : Type 0} (opaque : ℕ → ℕ → Val) (locals : ℕ → Val) where
  abbrev pub starting_with : List Val → State Val
  starting_with stack = record { pc = 0; stack = stack; locals = locals }

  -- the stack that the first instruction of a code leaves
  abbrev pub leaves : Pool → List ℕ → List Val → List Val
  leaves pool code stack = (next pool code opaque (starting_with stack)).stack

  -- what it leaves in a local
  abbrev pub holds : Pool → List ℕ → List Val → ℕ → Val
  holds pool code stack n = (next pool code opaque (starting_with stack)).locals n

  -- what it would dereference
  abbrev pub dereferences : Pool → List ℕ → List Val → List Val
  dereferences pool code stack = target pool code (starting_with stack)

-- each opcode of a list, as the one instruction of a code, leaves the same of a stack
infixr 5 ◌&◌
pub data EachLeaves {Val : Type 0} (opaque : ℕ → ℕ → Val) (locals : ℕ → Val) (stack left : List Val) : List ℕ → Type 0 where
  none : EachLeaves opaque locals stack left []
  ◌&◌ :
      {op : ℕ} {ops : List ℕ} → leaves opaque locals small (op ∷ []) stack ≡ left → EachLeaves opaque locals stack left ops →
      EachLeaves opaque locals stack left (op ∷ ops)

pub record InstructionsByName (Val : Type 0) (opaque : ℕ → ℕ → Val) (locals : ℕ → Val) (a b c d e : Val) : Type 0 where
  -- pop: "..., value → ..."
  pub pop : leaves opaque locals small (0x57 ∷ []) (a ∷ b ∷ []) ≡ a ∷ []
  -- pop2: "..., value2, value1 → ..."
  pub pop2 : leaves opaque locals small (0x58 ∷ []) (a ∷ b ∷ c ∷ []) ≡ a ∷ []
  -- dup: "..., value → ..., value, value"
  pub dup : leaves opaque locals small (0x59 ∷ []) (a ∷ b ∷ []) ≡ a ∷ b ∷ b ∷ []
  -- dup2: "..., value2, value1 → ..., value2, value1, value2, value1"
  pub dup2 : leaves opaque locals small (0x5c ∷ []) (a ∷ b ∷ c ∷ []) ≡ a ∷ b ∷ c ∷ b ∷ c ∷ []
  -- swap: "..., value2, value1 → ..., value1, value2"
  pub swap : leaves opaque locals small (0x5f ∷ []) (a ∷ b ∷ c ∷ []) ≡ a ∷ c ∷ b ∷ []
  -- dup_x1: "..., value2, value1 → ..., value1, value2, value1"
  pub dup_x1 : leaves opaque locals small (0x5a ∷ []) (a ∷ b ∷ c ∷ []) ≡ a ∷ c ∷ b ∷ c ∷ []
  -- dup_x2: "..., value3, value2, value1 → ..., value1, value3, value2, value1"
  pub dup_x2 : leaves opaque locals small (0x5b ∷ []) (a ∷ b ∷ c ∷ d ∷ []) ≡ a ∷ d ∷ b ∷ c ∷ d ∷ []
  -- dup2_x1: "..., value3, value2, value1 → ..., value2, value1, value3, value2, value1"
  pub dup2_x1 : leaves opaque locals small (0x5d ∷ []) (a ∷ b ∷ c ∷ d ∷ []) ≡ a ∷ c ∷ d ∷ b ∷ c ∷ d ∷ []
  -- dup2_x2: "..., value4, value3, value2, value1 → ..., value2, value1, value4, value3, value2, value1"
  pub dup2_x2 : leaves opaque locals small (0x5e ∷ []) (a ∷ b ∷ c ∷ d ∷ e ∷ []) ≡ a ∷ d ∷ e ∷ b ∷ c ∷ d ∷ e ∷ []
  -- iadd, fadd, isub, fsub, imul, fmul, idiv, fdiv, irem, frem; ishl, ishr, iushr; iand, ior, ixor; fcmpl, fcmpg:
  -- "..., value1, value2 → ..., result"
  pub two_to_one :
      EachLeaves opaque locals (a ∷ b ∷ c ∷ []) (a ∷ opaque 0 0 ∷ [])
      (96 ∷ 98 ∷ 100 ∷ 102 ∷ 104 ∷ 106 ∷ 108 ∷ 110 ∷ 112 ∷ 114 ∷ 120 ∷ 122 ∷ 124 ∷ 126 ∷ 128 ∷ 130 ∷ 149 ∷ 150 ∷ [])
  -- ladd, dadd, lsub, dsub, lmul, dmul, ldiv, ddiv, lrem, drem; land, lor, lxor: the same, of values of two slots
  pub four_to_two :
      EachLeaves opaque locals (a ∷ b ∷ c ∷ d ∷ e ∷ []) (a ∷ opaque 0 0 ∷ opaque 0 1 ∷ [])
      (97 ∷ 99 ∷ 101 ∷ 103 ∷ 105 ∷ 107 ∷ 109 ∷ 111 ∷ 113 ∷ 115 ∷ 127 ∷ 129 ∷ 131 ∷ [])
  -- lshl, lshr, lushr: "value1 must be of type long, and value2 must be of type int"
  pub three_to_two : EachLeaves opaque locals (a ∷ b ∷ c ∷ d ∷ []) (a ∷ opaque 0 0 ∷ opaque 0 1 ∷ []) (121 ∷ 123 ∷ 125 ∷ [])
  -- lcmp, dcmpl, dcmpg: an int
  pub four_to_one : EachLeaves opaque locals (a ∷ b ∷ c ∷ d ∷ e ∷ []) (a ∷ opaque 0 0 ∷ []) (148 ∷ 151 ∷ 152 ∷ [])
  -- ineg, fneg; i2f, f2i, i2b, i2c, i2s: "..., value → ..., result"
  pub one_to_one : EachLeaves opaque locals (a ∷ b ∷ []) (a ∷ opaque 0 0 ∷ []) (116 ∷ 118 ∷ 134 ∷ 139 ∷ 145 ∷ 146 ∷ 147 ∷ [])
  -- lneg, dneg; l2d, d2l
  pub two_to_two : EachLeaves opaque locals (a ∷ b ∷ c ∷ []) (a ∷ opaque 0 0 ∷ opaque 0 1 ∷ []) (117 ∷ 119 ∷ 138 ∷ 143 ∷ [])
  -- i2l, i2d, f2l, f2d
  pub one_to_two : EachLeaves opaque locals (a ∷ b ∷ []) (a ∷ opaque 0 0 ∷ opaque 0 1 ∷ []) (133 ∷ 135 ∷ 140 ∷ 141 ∷ [])
  -- l2i, l2f, d2i, d2f
  pub long_to_one : EachLeaves opaque locals (a ∷ b ∷ c ∷ []) (a ∷ opaque 0 0 ∷ []) (136 ∷ 137 ∷ 142 ∷ 144 ∷ [])
  -- iaload, aaload and laload: "..., arrayref, index → ..., value"; a long has two slots
  pub iaload : leaves opaque locals small (0x2e ∷ []) (a ∷ b ∷ c ∷ []) ≡ a ∷ opaque 0 0 ∷ []
  pub aaload : leaves opaque locals small (0x32 ∷ []) (a ∷ b ∷ c ∷ []) ≡ a ∷ opaque 0 0 ∷ []
  pub laload : leaves opaque locals small (0x2f ∷ []) (a ∷ b ∷ c ∷ []) ≡ a ∷ opaque 0 0 ∷ opaque 0 1 ∷ []
  pub aaload_from : dereferences opaque locals small (0x32 ∷ []) (a ∷ b ∷ c ∷ []) ≡ b ∷ []
  -- iastore, fastore, aastore, bastore, castore, sastore; lastore, dastore: "..., arrayref, index, value → ..."
  pub array_stores : EachLeaves opaque locals (a ∷ b ∷ c ∷ d ∷ []) (a ∷ []) (79 ∷ 81 ∷ 83 ∷ 84 ∷ 85 ∷ 86 ∷ [])
  pub long_array_stores : EachLeaves opaque locals (a ∷ b ∷ c ∷ d ∷ e ∷ []) (a ∷ []) (80 ∷ 82 ∷ [])
  pub dastore_to : dereferences opaque locals small (0x52 ∷ []) (a ∷ b ∷ c ∷ d ∷ e ∷ []) ≡ b ∷ []
  -- getfield: "..., objectref → ..., value", of a field I and of a field J
  pub getfield_int : leaves opaque locals small (0xb4 ∷ 0 ∷ 1 ∷ []) (a ∷ b ∷ []) ≡ a ∷ opaque 0 0 ∷ []
  pub getfield_long : leaves opaque locals large (0xb4 ∷ 0 ∷ 1 ∷ []) (a ∷ b ∷ []) ≡ a ∷ opaque 0 0 ∷ opaque 0 1 ∷ []
  pub getfield_from : dereferences opaque locals large (0xb4 ∷ 0 ∷ 1 ∷ []) (a ∷ b ∷ []) ≡ b ∷ []
  -- putstatic: "..., value → ..."; putfield: "..., objectref, value → ..."; of a field I and of a field J
  pub putstatic_int : leaves opaque locals small (0xb3 ∷ 0 ∷ 1 ∷ []) (a ∷ b ∷ c ∷ []) ≡ a ∷ b ∷ []
  pub putstatic_long : leaves opaque locals large (0xb3 ∷ 0 ∷ 1 ∷ []) (a ∷ b ∷ c ∷ []) ≡ a ∷ []
  pub putfield_int : leaves opaque locals small (0xb5 ∷ 0 ∷ 1 ∷ []) (a ∷ b ∷ c ∷ d ∷ []) ≡ a ∷ b ∷ []
  pub putfield_long : leaves opaque locals large (0xb5 ∷ 0 ∷ 1 ∷ []) (a ∷ b ∷ c ∷ d ∷ []) ≡ a ∷ []
  pub putfield_to : dereferences opaque locals large (0xb5 ∷ 0 ∷ 1 ∷ []) (a ∷ b ∷ c ∷ d ∷ []) ≡ b ∷ []
  -- monitorenter, monitorexit: "..., objectref → ..."
  pub monitorenter : leaves opaque locals small (0xc2 ∷ []) (a ∷ b ∷ []) ≡ a ∷ []
  pub monitorexit : leaves opaque locals small (0xc3 ∷ []) (a ∷ b ∷ []) ≡ a ∷ []
  -- multianewarray: "..., count1, [count2, ...] → ..., arrayref", of two dimensions
  pub multianewarray : leaves opaque locals small (0xc5 ∷ 0 ∷ 1 ∷ 2 ∷ []) (a ∷ b ∷ c ∷ []) ≡ a ∷ opaque 0 0 ∷ []
  -- invokestatic: "..., [arg1, [arg2 ...]] → ...", and what the method returns: of (I)V and of (IJ)D
  pub invokestatic_int : leaves opaque locals small (0xb8 ∷ 0 ∷ 1 ∷ []) (a ∷ b ∷ []) ≡ a ∷ []
  pub invokestatic_long :
      leaves opaque locals large (0xb8 ∷ 0 ∷ 1 ∷ []) (a ∷ b ∷ c ∷ d ∷ []) ≡ a ∷ opaque 0 0 ∷ opaque 0 1 ∷ []
  -- invokevirtual: "..., objectref, [arg1, [arg2 ...]] → ...", and what the method returns
  pub invokevirtual_int : leaves opaque locals small (0xb6 ∷ 0 ∷ 1 ∷ []) (a ∷ b ∷ c ∷ []) ≡ a ∷ []
  pub invokevirtual_long :
      leaves opaque locals large (0xb6 ∷ 0 ∷ 1 ∷ []) (a ∷ b ∷ c ∷ d ∷ []) ≡ opaque 0 0 ∷ opaque 0 1 ∷ []
  pub invokevirtual_from : dereferences opaque locals large (0xb6 ∷ 0 ∷ 1 ∷ []) (a ∷ b ∷ c ∷ d ∷ []) ≡ a ∷ []
  -- wide aload 300, wide lload 300, wide astore 300: as aload, lload, astore, of "a 16-bit unsigned index"
  pub wide_aload : leaves opaque locals small (0xc4 ∷ 0x19 ∷ 1 ∷ 44 ∷ []) (a ∷ []) ≡ a ∷ locals 300 ∷ []
  pub wide_lload : leaves opaque locals small (0xc4 ∷ 0x16 ∷ 1 ∷ 44 ∷ []) (a ∷ []) ≡ a ∷ locals 300 ∷ locals 301 ∷ []
  pub wide_astore : leaves opaque locals small (0xc4 ∷ 0x3a ∷ 1 ∷ 44 ∷ []) (a ∷ b ∷ []) ≡ a ∷ []
  pub wide_astored : holds opaque locals small (0xc4 ∷ 0x3a ∷ 1 ∷ 44 ∷ []) (a ∷ b ∷ []) 300 ≡ b
  -- wide iinc 300 by 5: the local, and six bytes
  pub wide_iinc : holds opaque locals small (0xc4 ∷ 0x84 ∷ 1 ∷ 44 ∷ 0 ∷ 5 ∷ []) [] 300 ≡ opaque 0 0
  pub wide_iinc_bytes : (next small (0xc4 ∷ 0x84 ∷ 1 ∷ 44 ∷ 0 ∷ 5 ∷ []) opaque (starting_with opaque locals [])).pc ≡ 6
