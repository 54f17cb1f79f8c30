-- The operand stack of JVMS 6.5: for every opcode that is modelled or dereferences, its operands and its results, by the names
-- that JVMS writes, bottom first as JVMS draws them, and the locals that it reads and writes. Written from JVMS alone.
-- JVMS's `<i>`, `<l>`, `<f>`, `<d>` are `constant` here, its `length` is `size`, its `[arg1, [arg2 ...]]` is `args`, its
-- `count1, [count2, ...]` is `counts`. What an invoked method returns is its `result` here: JVMS draws it at the return
-- instruction, which pushes it.
-- Assumes nothing.
use Rattle.std.specs.Prelude.{ℕ, zero, suc, ◌+◌, ◌-◌, Bool, List, [], ◌∷◌, eqb, ltb, length}
use Rattle.basics.specs.Bytes.{byte_at}
use Rattle.basics.specs.Choice.{pick}

pub data Name : Type 0 where
  value value1 value2 value3 value4 constant null objectref arrayref index count counts size result args : Name

-- an operand or a result by its name, of a type. `category1` and `category2`: any value of that category (JVMS 2.11.1).
-- `field`, `parameters`, `returned`: what the descriptor of the member that the instruction cites says. `dimensions`: as many ints
-- as the instruction's dimensions byte says.
pub data Operand : Type 0 where
  int long float double reference category1 category2 field parameters returned dimensions : Name → Operand

-- "..., before → ..., after"
pub record Form : Type 0 where
  pub before : List Operand
  pub after : List Operand

infix 3 ◌⇒◌
abbrev pub ◌⇒◌ : List Operand → List Operand → Form
operands ⇒ outcome = record { before = operands; after = outcome }

-- which local: by the byte behind the opcode; behind `wide` and an opcode, by the two bytes there; or by the number in the opcode's
-- name
pub data Local : Type 0 where
  indexed far : Local
  numbered : ℕ → Local

pub data Entry : Type 0 where
  unlisted : Entry
  -- one form; a first form and others, by the category of the values
  does : Form → Entry
  either_of : Form → List Form → Entry
  -- the results are what the local holds, and the next one for two slots
  loads : Local → Form → Entry
  -- the operand goes into the local, and the next one for two slots
  stores : Local → Form → Entry
  -- the local is written
  increments : Local → Form → Entry
  -- control leaves the code
  throws : List Operand → Entry

-- ---- slots

-- of a field's value, of a method's parameters and of its result; and of the counts of an array's dimensions, one each
pub record Cited : Type 0 where
  pub field : ℕ
  pub args : ℕ
  pub gives : ℕ
  pub dims : ℕ

-- JVMS 2.6.2: "a value of type long or double contributes two units to the depth and a value of any other type contributes one unit"
abbrev pub slots_of : Cited → Operand → ℕ
slots_of cited (int n) = 1
slots_of cited (long n) = 2
slots_of cited (float n) = 1
slots_of cited (double n) = 2
slots_of cited (reference n) = 1
slots_of cited (category1 n) = 1
slots_of cited (category2 n) = 2
slots_of cited (field n) = cited.field
slots_of cited (parameters n) = cited.args
slots_of cited (returned n) = cited.gives
slots_of cited (dimensions n) = cited.dims

abbrev pub slots_in : Cited → List Operand → ℕ
slots_in cited [] = 0
slots_in cited (o ∷ os) = slots_of cited o + slots_in cited os

-- ---- names

abbrev pub name_of : Operand → Name
name_of (int n) = n
name_of (long n) = n
name_of (float n) = n
name_of (double n) = n
name_of (reference n) = n
name_of (category1 n) = n
name_of (category2 n) = n
name_of (field n) = n
name_of (parameters n) = n
name_of (returned n) = n
name_of (dimensions n) = n

abbrev pub ordinal : Name → ℕ
ordinal value = 0
ordinal value1 = 1
ordinal value2 = 2
ordinal constant = 3
ordinal null = 4
ordinal objectref = 5
ordinal arrayref = 6
ordinal index = 7
ordinal count = 8
ordinal size = 9
ordinal result = 10
ordinal args = 11
ordinal value3 = 12
ordinal value4 = 13
ordinal counts = 14

abbrev pub same_name : Name → Name → Bool
same_name a b = eqb (ordinal a) (ordinal b)

-- ---- the opcodes from 0 to 201

unfoldable pub entries : List Entry
entries =
    does ([] ⇒ []) ∷  -- 0 nop
    does ([] ⇒ reference null ∷ []) ∷  -- 1 aconst_null
    does ([] ⇒ int constant ∷ []) ∷  -- 2 iconst_m1
    does ([] ⇒ int constant ∷ []) ∷  -- 3 iconst_0
    does ([] ⇒ int constant ∷ []) ∷  -- 4 iconst_1
    does ([] ⇒ int constant ∷ []) ∷  -- 5 iconst_2
    does ([] ⇒ int constant ∷ []) ∷  -- 6 iconst_3
    does ([] ⇒ int constant ∷ []) ∷  -- 7 iconst_4
    does ([] ⇒ int constant ∷ []) ∷  -- 8 iconst_5
    does ([] ⇒ long constant ∷ []) ∷  -- 9 lconst_0
    does ([] ⇒ long constant ∷ []) ∷  -- 10 lconst_1
    does ([] ⇒ float constant ∷ []) ∷  -- 11 fconst_0
    does ([] ⇒ float constant ∷ []) ∷  -- 12 fconst_1
    does ([] ⇒ float constant ∷ []) ∷  -- 13 fconst_2
    does ([] ⇒ double constant ∷ []) ∷  -- 14 dconst_0
    does ([] ⇒ double constant ∷ []) ∷  -- 15 dconst_1
    does ([] ⇒ int value ∷ []) ∷  -- 16 bipush
    does ([] ⇒ int value ∷ []) ∷  -- 17 sipush
    does ([] ⇒ category1 value ∷ []) ∷  -- 18 ldc
    does ([] ⇒ category1 value ∷ []) ∷  -- 19 ldc_w
    does ([] ⇒ category2 value ∷ []) ∷  -- 20 ldc2_w
    loads indexed ([] ⇒ int value ∷ []) ∷  -- 21 iload
    loads indexed ([] ⇒ long value ∷ []) ∷  -- 22 lload
    loads indexed ([] ⇒ float value ∷ []) ∷  -- 23 fload
    loads indexed ([] ⇒ double value ∷ []) ∷  -- 24 dload
    loads indexed ([] ⇒ reference objectref ∷ []) ∷  -- 25 aload
    loads (numbered 0) ([] ⇒ int value ∷ []) ∷  -- 26 iload_0
    loads (numbered 1) ([] ⇒ int value ∷ []) ∷  -- 27 iload_1
    loads (numbered 2) ([] ⇒ int value ∷ []) ∷  -- 28 iload_2
    loads (numbered 3) ([] ⇒ int value ∷ []) ∷  -- 29 iload_3
    loads (numbered 0) ([] ⇒ long value ∷ []) ∷  -- 30 lload_0
    loads (numbered 1) ([] ⇒ long value ∷ []) ∷  -- 31 lload_1
    loads (numbered 2) ([] ⇒ long value ∷ []) ∷  -- 32 lload_2
    loads (numbered 3) ([] ⇒ long value ∷ []) ∷  -- 33 lload_3
    loads (numbered 0) ([] ⇒ float value ∷ []) ∷  -- 34 fload_0
    loads (numbered 1) ([] ⇒ float value ∷ []) ∷  -- 35 fload_1
    loads (numbered 2) ([] ⇒ float value ∷ []) ∷  -- 36 fload_2
    loads (numbered 3) ([] ⇒ float value ∷ []) ∷  -- 37 fload_3
    loads (numbered 0) ([] ⇒ double value ∷ []) ∷  -- 38 dload_0
    loads (numbered 1) ([] ⇒ double value ∷ []) ∷  -- 39 dload_1
    loads (numbered 2) ([] ⇒ double value ∷ []) ∷  -- 40 dload_2
    loads (numbered 3) ([] ⇒ double value ∷ []) ∷  -- 41 dload_3
    loads (numbered 0) ([] ⇒ reference objectref ∷ []) ∷  -- 42 aload_0
    loads (numbered 1) ([] ⇒ reference objectref ∷ []) ∷  -- 43 aload_1
    loads (numbered 2) ([] ⇒ reference objectref ∷ []) ∷  -- 44 aload_2
    loads (numbered 3) ([] ⇒ reference objectref ∷ []) ∷  -- 45 aload_3
    does (reference arrayref ∷ int index ∷ [] ⇒ int value ∷ []) ∷  -- 46 iaload
    does (reference arrayref ∷ int index ∷ [] ⇒ long value ∷ []) ∷  -- 47 laload
    does (reference arrayref ∷ int index ∷ [] ⇒ float value ∷ []) ∷  -- 48 faload
    does (reference arrayref ∷ int index ∷ [] ⇒ double value ∷ []) ∷  -- 49 daload
    does (reference arrayref ∷ int index ∷ [] ⇒ reference value ∷ []) ∷  -- 50 aaload
    does (reference arrayref ∷ int index ∷ [] ⇒ int value ∷ []) ∷  -- 51 baload
    does (reference arrayref ∷ int index ∷ [] ⇒ int value ∷ []) ∷  -- 52 caload
    does (reference arrayref ∷ int index ∷ [] ⇒ int value ∷ []) ∷  -- 53 saload
    stores indexed (int value ∷ [] ⇒ []) ∷  -- 54 istore
    stores indexed (long value ∷ [] ⇒ []) ∷  -- 55 lstore
    stores indexed (float value ∷ [] ⇒ []) ∷  -- 56 fstore
    stores indexed (double value ∷ [] ⇒ []) ∷  -- 57 dstore
    stores indexed (reference objectref ∷ [] ⇒ []) ∷  -- 58 astore
    stores (numbered 0) (int value ∷ [] ⇒ []) ∷  -- 59 istore_0
    stores (numbered 1) (int value ∷ [] ⇒ []) ∷  -- 60 istore_1
    stores (numbered 2) (int value ∷ [] ⇒ []) ∷  -- 61 istore_2
    stores (numbered 3) (int value ∷ [] ⇒ []) ∷  -- 62 istore_3
    stores (numbered 0) (long value ∷ [] ⇒ []) ∷  -- 63 lstore_0
    stores (numbered 1) (long value ∷ [] ⇒ []) ∷  -- 64 lstore_1
    stores (numbered 2) (long value ∷ [] ⇒ []) ∷  -- 65 lstore_2
    stores (numbered 3) (long value ∷ [] ⇒ []) ∷  -- 66 lstore_3
    stores (numbered 0) (float value ∷ [] ⇒ []) ∷  -- 67 fstore_0
    stores (numbered 1) (float value ∷ [] ⇒ []) ∷  -- 68 fstore_1
    stores (numbered 2) (float value ∷ [] ⇒ []) ∷  -- 69 fstore_2
    stores (numbered 3) (float value ∷ [] ⇒ []) ∷  -- 70 fstore_3
    stores (numbered 0) (double value ∷ [] ⇒ []) ∷  -- 71 dstore_0
    stores (numbered 1) (double value ∷ [] ⇒ []) ∷  -- 72 dstore_1
    stores (numbered 2) (double value ∷ [] ⇒ []) ∷  -- 73 dstore_2
    stores (numbered 3) (double value ∷ [] ⇒ []) ∷  -- 74 dstore_3
    stores (numbered 0) (reference objectref ∷ [] ⇒ []) ∷  -- 75 astore_0
    stores (numbered 1) (reference objectref ∷ [] ⇒ []) ∷  -- 76 astore_1
    stores (numbered 2) (reference objectref ∷ [] ⇒ []) ∷  -- 77 astore_2
    stores (numbered 3) (reference objectref ∷ [] ⇒ []) ∷  -- 78 astore_3
    does (reference arrayref ∷ int index ∷ int value ∷ [] ⇒ []) ∷  -- 79 iastore
    does (reference arrayref ∷ int index ∷ long value ∷ [] ⇒ []) ∷  -- 80 lastore
    does (reference arrayref ∷ int index ∷ float value ∷ [] ⇒ []) ∷  -- 81 fastore
    does (reference arrayref ∷ int index ∷ double value ∷ [] ⇒ []) ∷  -- 82 dastore
    does (reference arrayref ∷ int index ∷ reference value ∷ [] ⇒ []) ∷  -- 83 aastore
    does (reference arrayref ∷ int index ∷ int value ∷ [] ⇒ []) ∷  -- 84 bastore
    does (reference arrayref ∷ int index ∷ int value ∷ [] ⇒ []) ∷  -- 85 castore
    does (reference arrayref ∷ int index ∷ int value ∷ [] ⇒ []) ∷  -- 86 sastore
    does (category1 value ∷ [] ⇒ []) ∷  -- 87 pop
    either_of (category1 value2 ∷ category1 value1 ∷ [] ⇒ []) ((category2 value ∷ [] ⇒ []) ∷ []) ∷  -- 88 pop2
    does (category1 value ∷ [] ⇒ category1 value ∷ category1 value ∷ []) ∷  -- 89 dup
    does (category1 value2 ∷ category1 value1 ∷ [] ⇒ category1 value1 ∷ category1 value2 ∷ category1 value1 ∷ []) ∷  -- 90 dup_x1
    either_of
    (category1 value3 ∷ category1 value2 ∷ category1 value1 ∷ []
    ⇒ category1 value1 ∷ category1 value3 ∷ category1 value2 ∷ category1 value1 ∷ [])
    ((category2 value2 ∷ category1 value1 ∷ [] ⇒ category1 value1 ∷ category2 value2 ∷ category1 value1 ∷ []) ∷ []) ∷  -- 91 dup_x2
    either_of
    (category1 value2 ∷ category1 value1 ∷ [] ⇒ category1 value2 ∷ category1 value1 ∷ category1 value2 ∷ category1 value1 ∷ [])
    ((category2 value ∷ [] ⇒ category2 value ∷ category2 value ∷ []) ∷ []) ∷  -- 92 dup2
    either_of
    (category1 value3 ∷ category1 value2 ∷ category1 value1 ∷ []
    ⇒ category1 value2 ∷ category1 value1 ∷ category1 value3 ∷ category1 value2 ∷ category1 value1 ∷ [])
    ((category1 value2 ∷ category2 value1 ∷ [] ⇒ category2 value1 ∷ category1 value2 ∷ category2 value1 ∷ []) ∷ []) ∷  -- 93 dup2_x1
    either_of
    (category1 value4 ∷ category1 value3 ∷ category1 value2 ∷ category1 value1 ∷ []
    ⇒ category1 value2 ∷ category1 value1 ∷ category1 value4 ∷ category1 value3 ∷ category1 value2 ∷ category1 value1 ∷ [])
    ((category1 value3 ∷ category1 value2 ∷ category2 value1 ∷ []
    ⇒ category2 value1 ∷ category1 value3 ∷ category1 value2 ∷ category2 value1 ∷ [])
    ∷ (category2 value3 ∷ category1 value2 ∷ category1 value1 ∷ []
    ⇒ category1 value2 ∷ category1 value1 ∷ category2 value3 ∷ category1 value2 ∷ category1 value1 ∷ [])
    ∷ (category2 value2 ∷ category2 value1 ∷ [] ⇒ category2 value1 ∷ category2 value2 ∷ category2 value1 ∷ []) ∷ []) ∷  -- 94 dup2_x2
    does (category1 value2 ∷ category1 value1 ∷ [] ⇒ category1 value1 ∷ category1 value2 ∷ []) ∷  -- 95 swap
    does (int value1 ∷ int value2 ∷ [] ⇒ int result ∷ []) ∷  -- 96 iadd
    does (long value1 ∷ long value2 ∷ [] ⇒ long result ∷ []) ∷  -- 97 ladd
    does (float value1 ∷ float value2 ∷ [] ⇒ float result ∷ []) ∷  -- 98 fadd
    does (double value1 ∷ double value2 ∷ [] ⇒ double result ∷ []) ∷  -- 99 dadd
    does (int value1 ∷ int value2 ∷ [] ⇒ int result ∷ []) ∷  -- 100 isub
    does (long value1 ∷ long value2 ∷ [] ⇒ long result ∷ []) ∷  -- 101 lsub
    does (float value1 ∷ float value2 ∷ [] ⇒ float result ∷ []) ∷  -- 102 fsub
    does (double value1 ∷ double value2 ∷ [] ⇒ double result ∷ []) ∷  -- 103 dsub
    does (int value1 ∷ int value2 ∷ [] ⇒ int result ∷ []) ∷  -- 104 imul
    does (long value1 ∷ long value2 ∷ [] ⇒ long result ∷ []) ∷  -- 105 lmul
    does (float value1 ∷ float value2 ∷ [] ⇒ float result ∷ []) ∷  -- 106 fmul
    does (double value1 ∷ double value2 ∷ [] ⇒ double result ∷ []) ∷  -- 107 dmul
    does (int value1 ∷ int value2 ∷ [] ⇒ int result ∷ []) ∷  -- 108 idiv
    does (long value1 ∷ long value2 ∷ [] ⇒ long result ∷ []) ∷  -- 109 ldiv
    does (float value1 ∷ float value2 ∷ [] ⇒ float result ∷ []) ∷  -- 110 fdiv
    does (double value1 ∷ double value2 ∷ [] ⇒ double result ∷ []) ∷  -- 111 ddiv
    does (int value1 ∷ int value2 ∷ [] ⇒ int result ∷ []) ∷  -- 112 irem
    does (long value1 ∷ long value2 ∷ [] ⇒ long result ∷ []) ∷  -- 113 lrem
    does (float value1 ∷ float value2 ∷ [] ⇒ float result ∷ []) ∷  -- 114 frem
    does (double value1 ∷ double value2 ∷ [] ⇒ double result ∷ []) ∷  -- 115 drem
    does (int value ∷ [] ⇒ int result ∷ []) ∷  -- 116 ineg
    does (long value ∷ [] ⇒ long result ∷ []) ∷  -- 117 lneg
    does (float value ∷ [] ⇒ float result ∷ []) ∷  -- 118 fneg
    does (double value ∷ [] ⇒ double result ∷ []) ∷  -- 119 dneg
    does (int value1 ∷ int value2 ∷ [] ⇒ int result ∷ []) ∷  -- 120 ishl
    does (long value1 ∷ int value2 ∷ [] ⇒ long result ∷ []) ∷  -- 121 lshl
    does (int value1 ∷ int value2 ∷ [] ⇒ int result ∷ []) ∷  -- 122 ishr
    does (long value1 ∷ int value2 ∷ [] ⇒ long result ∷ []) ∷  -- 123 lshr
    does (int value1 ∷ int value2 ∷ [] ⇒ int result ∷ []) ∷  -- 124 iushr
    does (long value1 ∷ int value2 ∷ [] ⇒ long result ∷ []) ∷  -- 125 lushr
    does (int value1 ∷ int value2 ∷ [] ⇒ int result ∷ []) ∷  -- 126 iand
    does (long value1 ∷ long value2 ∷ [] ⇒ long result ∷ []) ∷  -- 127 land
    does (int value1 ∷ int value2 ∷ [] ⇒ int result ∷ []) ∷  -- 128 ior
    does (long value1 ∷ long value2 ∷ [] ⇒ long result ∷ []) ∷  -- 129 lor
    does (int value1 ∷ int value2 ∷ [] ⇒ int result ∷ []) ∷  -- 130 ixor
    does (long value1 ∷ long value2 ∷ [] ⇒ long result ∷ []) ∷  -- 131 lxor
    increments indexed ([] ⇒ []) ∷  -- 132 iinc
    does (int value ∷ [] ⇒ long result ∷ []) ∷  -- 133 i2l
    does (int value ∷ [] ⇒ float result ∷ []) ∷  -- 134 i2f
    does (int value ∷ [] ⇒ double result ∷ []) ∷  -- 135 i2d
    does (long value ∷ [] ⇒ int result ∷ []) ∷  -- 136 l2i
    does (long value ∷ [] ⇒ float result ∷ []) ∷  -- 137 l2f
    does (long value ∷ [] ⇒ double result ∷ []) ∷  -- 138 l2d
    does (float value ∷ [] ⇒ int result ∷ []) ∷  -- 139 f2i
    does (float value ∷ [] ⇒ long result ∷ []) ∷  -- 140 f2l
    does (float value ∷ [] ⇒ double result ∷ []) ∷  -- 141 f2d
    does (double value ∷ [] ⇒ int result ∷ []) ∷  -- 142 d2i
    does (double value ∷ [] ⇒ long result ∷ []) ∷  -- 143 d2l
    does (double value ∷ [] ⇒ float result ∷ []) ∷  -- 144 d2f
    does (int value ∷ [] ⇒ int result ∷ []) ∷  -- 145 i2b
    does (int value ∷ [] ⇒ int result ∷ []) ∷  -- 146 i2c
    does (int value ∷ [] ⇒ int result ∷ []) ∷  -- 147 i2s
    does (long value1 ∷ long value2 ∷ [] ⇒ int result ∷ []) ∷  -- 148 lcmp
    does (float value1 ∷ float value2 ∷ [] ⇒ int result ∷ []) ∷  -- 149 fcmpl
    does (float value1 ∷ float value2 ∷ [] ⇒ int result ∷ []) ∷  -- 150 fcmpg
    does (double value1 ∷ double value2 ∷ [] ⇒ int result ∷ []) ∷  -- 151 dcmpl
    does (double value1 ∷ double value2 ∷ [] ⇒ int result ∷ []) ∷  -- 152 dcmpg
    unlisted ∷  -- 153 ifeq
    unlisted ∷  -- 154 ifne
    unlisted ∷  -- 155 iflt
    unlisted ∷  -- 156 ifge
    unlisted ∷  -- 157 ifgt
    unlisted ∷  -- 158 ifle
    unlisted ∷  -- 159 if_icmpeq
    unlisted ∷  -- 160 if_icmpne
    unlisted ∷  -- 161 if_icmplt
    unlisted ∷  -- 162 if_icmpge
    unlisted ∷  -- 163 if_icmpgt
    unlisted ∷  -- 164 if_icmple
    unlisted ∷  -- 165 if_acmpeq
    unlisted ∷  -- 166 if_acmpne
    unlisted ∷  -- 167 goto
    unlisted ∷  -- 168 jsr
    unlisted ∷  -- 169 ret
    unlisted ∷  -- 170 tableswitch
    unlisted ∷  -- 171 lookupswitch
    unlisted ∷  -- 172 ireturn
    unlisted ∷  -- 173 lreturn
    unlisted ∷  -- 174 freturn
    unlisted ∷  -- 175 dreturn
    unlisted ∷  -- 176 areturn
    unlisted ∷  -- 177 return
    does ([] ⇒ field value ∷ []) ∷  -- 178 getstatic
    does (field value ∷ [] ⇒ []) ∷  -- 179 putstatic
    does (reference objectref ∷ [] ⇒ field value ∷ []) ∷  -- 180 getfield
    does (reference objectref ∷ field value ∷ [] ⇒ []) ∷  -- 181 putfield
    does (reference objectref ∷ parameters args ∷ [] ⇒ returned result ∷ []) ∷  -- 182 invokevirtual
    does (reference objectref ∷ parameters args ∷ [] ⇒ returned result ∷ []) ∷  -- 183 invokespecial
    does (parameters args ∷ [] ⇒ returned result ∷ []) ∷  -- 184 invokestatic
    does (reference objectref ∷ parameters args ∷ [] ⇒ returned result ∷ []) ∷  -- 185 invokeinterface
    unlisted ∷  -- 186 invokedynamic
    does ([] ⇒ reference objectref ∷ []) ∷  -- 187 new
    does (int count ∷ [] ⇒ reference arrayref ∷ []) ∷  -- 188 newarray
    does (int count ∷ [] ⇒ reference arrayref ∷ []) ∷  -- 189 anewarray
    does (reference arrayref ∷ [] ⇒ int size ∷ []) ∷  -- 190 arraylength
    throws (reference objectref ∷ []) ∷  -- 191 athrow
    does (reference objectref ∷ [] ⇒ reference objectref ∷ []) ∷  -- 192 checkcast
    does (reference objectref ∷ [] ⇒ int result ∷ []) ∷  -- 193 instanceof
    does (reference objectref ∷ [] ⇒ []) ∷  -- 194 monitorenter
    does (reference objectref ∷ [] ⇒ []) ∷  -- 195 monitorexit
    unlisted ∷  -- 196 wide
    does (dimensions counts ∷ [] ⇒ reference arrayref ∷ []) ∷  -- 197 multianewarray
    unlisted ∷  -- 198 ifnull
    unlisted ∷  -- 199 ifnonnull
    unlisted ∷  -- 200 goto_w
    unlisted ∷  -- 201 jsr_w
    []

abbrev pub entry_in : List Entry → ℕ → Entry
entry_in [] op = unlisted
entry_in (e ∷ es) zero = e
entry_in (e ∷ es) (suc op) = entry_in es op

-- `wide` "modifies the behavior of another instruction", of one that names a local by a byte: "indexbyte1 and indexbyte2 follow the
-- modified opcode and are assembled into a 16-bit unsigned index to a local variable". (JVMS lists `ret` too, which has no entry
-- here.)
abbrev pub widened : Entry → Entry
widened unlisted = unlisted
widened (does f) = unlisted
widened (either_of f others) = unlisted
widened (loads indexed f) = loads far f
widened (loads far f) = unlisted
widened (loads (numbered n) f) = unlisted
widened (stores indexed f) = stores far f
widened (stores far f) = unlisted
widened (stores (numbered n) f) = unlisted
widened (increments indexed f) = increments far f
widened (increments far f) = unlisted
widened (increments (numbered n) f) = unlisted
widened (throws os) = unlisted

-- The instruction at an index of a code, as a key of this table and of every other table by opcode: its opcode; after `wide` 256 and
-- the opcode that is widened, and `wide` alone where nothing follows. And how many keys there are.
abbrev pub key_at : List ℕ → ℕ → ℕ
key_at code pc =
    pick (eqb (byte_at code pc) 196) (pick (ltb (pc + 1) (length code)) (256 + byte_at code (pc + 1)) 196) (byte_at code pc)

abbrev pub key_count : ℕ
key_count = 512

-- what JVMS says of a key
unfoldable pub entry_of : ℕ → Entry
unfolding entries
entry_of key = pick (ltb key 256) (entry_in entries key) (widened (entry_in entries (key - 256)))

abbrev pub entry_at : List ℕ → ℕ → Entry
entry_at code pc = entry_of (key_at code pc)

-- the operands that JVMS lists for an instruction; those of its first form, where it has several
abbrev pub operands_of : Entry → List Operand
operands_of unlisted = []
operands_of (does f) = f.before
operands_of (either_of f others) = f.before
operands_of (loads l f) = f.before
operands_of (stores l f) = f.before
operands_of (increments l f) = f.before
operands_of (throws os) = os
