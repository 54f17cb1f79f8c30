-- The format of every instruction, opcode by opcode, as JVMS 6.5 draws it: what stands after the opcode.
-- Written from JVMS alone.
-- Assumes nothing.
use Rattle.std.specs.Prelude.{ℕ, zero, suc, ◌+◌, List, [], ◌∷◌}

-- An operand, with its number of bytes. JVMS draws a byte at a time: its `indexbyte1, indexbyte2` is `index 2` here,
-- its lone `index` is `index 1`, and its `0` is `zeros 1`.
pub data Operand : Type 0 where
  byte : ℕ → Operand
  index : ℕ → Operand
  const : ℕ → Operand
  branch : ℕ → Operand
  count : ℕ → Operand
  zeros : ℕ → Operand
  atype : ℕ → Operand
  dimensions : ℕ → Operand

-- What an opcode says of the bytes behind it: an operand list of fixed length, or one of the three whose length the
-- operands tell. JVMS 6.5 has no format for the rest, of which JVMS 6.2 reserves three.
pub data Format : Type 0 where
  fixed : List Operand → Format
  tableswitch : Format
  lookupswitch : Format
  wide : Format
  reserved : Format

abbrev pub width : Operand → ℕ
width (byte n) = n
width (index n) = n
width (const n) = n
width (branch n) = n
width (count n) = n
width (zeros n) = n
width (atype n) = n
width (dimensions n) = n

abbrev pub widths : List Operand → ℕ
widths [] = 0
widths (o ∷ os) = width o + widths os

-- the opcodes from 0 to 201
unfoldable pub formats : List Format
formats =
    fixed [] ∷  -- 0 nop
    fixed [] ∷  -- 1 aconst_null
    fixed [] ∷  -- 2 iconst_m1
    fixed [] ∷  -- 3 iconst_0
    fixed [] ∷  -- 4 iconst_1
    fixed [] ∷  -- 5 iconst_2
    fixed [] ∷  -- 6 iconst_3
    fixed [] ∷  -- 7 iconst_4
    fixed [] ∷  -- 8 iconst_5
    fixed [] ∷  -- 9 lconst_0
    fixed [] ∷  -- 10 lconst_1
    fixed [] ∷  -- 11 fconst_0
    fixed [] ∷  -- 12 fconst_1
    fixed [] ∷  -- 13 fconst_2
    fixed [] ∷  -- 14 dconst_0
    fixed [] ∷  -- 15 dconst_1
    fixed (byte 1 ∷ []) ∷  -- 16 bipush
    fixed (byte 2 ∷ []) ∷  -- 17 sipush
    fixed (index 1 ∷ []) ∷  -- 18 ldc
    fixed (index 2 ∷ []) ∷  -- 19 ldc_w
    fixed (index 2 ∷ []) ∷  -- 20 ldc2_w
    fixed (index 1 ∷ []) ∷  -- 21 iload
    fixed (index 1 ∷ []) ∷  -- 22 lload
    fixed (index 1 ∷ []) ∷  -- 23 fload
    fixed (index 1 ∷ []) ∷  -- 24 dload
    fixed (index 1 ∷ []) ∷  -- 25 aload
    fixed [] ∷  -- 26 iload_0
    fixed [] ∷  -- 27 iload_1
    fixed [] ∷  -- 28 iload_2
    fixed [] ∷  -- 29 iload_3
    fixed [] ∷  -- 30 lload_0
    fixed [] ∷  -- 31 lload_1
    fixed [] ∷  -- 32 lload_2
    fixed [] ∷  -- 33 lload_3
    fixed [] ∷  -- 34 fload_0
    fixed [] ∷  -- 35 fload_1
    fixed [] ∷  -- 36 fload_2
    fixed [] ∷  -- 37 fload_3
    fixed [] ∷  -- 38 dload_0
    fixed [] ∷  -- 39 dload_1
    fixed [] ∷  -- 40 dload_2
    fixed [] ∷  -- 41 dload_3
    fixed [] ∷  -- 42 aload_0
    fixed [] ∷  -- 43 aload_1
    fixed [] ∷  -- 44 aload_2
    fixed [] ∷  -- 45 aload_3
    fixed [] ∷  -- 46 iaload
    fixed [] ∷  -- 47 laload
    fixed [] ∷  -- 48 faload
    fixed [] ∷  -- 49 daload
    fixed [] ∷  -- 50 aaload
    fixed [] ∷  -- 51 baload
    fixed [] ∷  -- 52 caload
    fixed [] ∷  -- 53 saload
    fixed (index 1 ∷ []) ∷  -- 54 istore
    fixed (index 1 ∷ []) ∷  -- 55 lstore
    fixed (index 1 ∷ []) ∷  -- 56 fstore
    fixed (index 1 ∷ []) ∷  -- 57 dstore
    fixed (index 1 ∷ []) ∷  -- 58 astore
    fixed [] ∷  -- 59 istore_0
    fixed [] ∷  -- 60 istore_1
    fixed [] ∷  -- 61 istore_2
    fixed [] ∷  -- 62 istore_3
    fixed [] ∷  -- 63 lstore_0
    fixed [] ∷  -- 64 lstore_1
    fixed [] ∷  -- 65 lstore_2
    fixed [] ∷  -- 66 lstore_3
    fixed [] ∷  -- 67 fstore_0
    fixed [] ∷  -- 68 fstore_1
    fixed [] ∷  -- 69 fstore_2
    fixed [] ∷  -- 70 fstore_3
    fixed [] ∷  -- 71 dstore_0
    fixed [] ∷  -- 72 dstore_1
    fixed [] ∷  -- 73 dstore_2
    fixed [] ∷  -- 74 dstore_3
    fixed [] ∷  -- 75 astore_0
    fixed [] ∷  -- 76 astore_1
    fixed [] ∷  -- 77 astore_2
    fixed [] ∷  -- 78 astore_3
    fixed [] ∷  -- 79 iastore
    fixed [] ∷  -- 80 lastore
    fixed [] ∷  -- 81 fastore
    fixed [] ∷  -- 82 dastore
    fixed [] ∷  -- 83 aastore
    fixed [] ∷  -- 84 bastore
    fixed [] ∷  -- 85 castore
    fixed [] ∷  -- 86 sastore
    fixed [] ∷  -- 87 pop
    fixed [] ∷  -- 88 pop2
    fixed [] ∷  -- 89 dup
    fixed [] ∷  -- 90 dup_x1
    fixed [] ∷  -- 91 dup_x2
    fixed [] ∷  -- 92 dup2
    fixed [] ∷  -- 93 dup2_x1
    fixed [] ∷  -- 94 dup2_x2
    fixed [] ∷  -- 95 swap
    fixed [] ∷  -- 96 iadd
    fixed [] ∷  -- 97 ladd
    fixed [] ∷  -- 98 fadd
    fixed [] ∷  -- 99 dadd
    fixed [] ∷  -- 100 isub
    fixed [] ∷  -- 101 lsub
    fixed [] ∷  -- 102 fsub
    fixed [] ∷  -- 103 dsub
    fixed [] ∷  -- 104 imul
    fixed [] ∷  -- 105 lmul
    fixed [] ∷  -- 106 fmul
    fixed [] ∷  -- 107 dmul
    fixed [] ∷  -- 108 idiv
    fixed [] ∷  -- 109 ldiv
    fixed [] ∷  -- 110 fdiv
    fixed [] ∷  -- 111 ddiv
    fixed [] ∷  -- 112 irem
    fixed [] ∷  -- 113 lrem
    fixed [] ∷  -- 114 frem
    fixed [] ∷  -- 115 drem
    fixed [] ∷  -- 116 ineg
    fixed [] ∷  -- 117 lneg
    fixed [] ∷  -- 118 fneg
    fixed [] ∷  -- 119 dneg
    fixed [] ∷  -- 120 ishl
    fixed [] ∷  -- 121 lshl
    fixed [] ∷  -- 122 ishr
    fixed [] ∷  -- 123 lshr
    fixed [] ∷  -- 124 iushr
    fixed [] ∷  -- 125 lushr
    fixed [] ∷  -- 126 iand
    fixed [] ∷  -- 127 land
    fixed [] ∷  -- 128 ior
    fixed [] ∷  -- 129 lor
    fixed [] ∷  -- 130 ixor
    fixed [] ∷  -- 131 lxor
    fixed (index 1 ∷ const 1 ∷ []) ∷  -- 132 iinc
    fixed [] ∷  -- 133 i2l
    fixed [] ∷  -- 134 i2f
    fixed [] ∷  -- 135 i2d
    fixed [] ∷  -- 136 l2i
    fixed [] ∷  -- 137 l2f
    fixed [] ∷  -- 138 l2d
    fixed [] ∷  -- 139 f2i
    fixed [] ∷  -- 140 f2l
    fixed [] ∷  -- 141 f2d
    fixed [] ∷  -- 142 d2i
    fixed [] ∷  -- 143 d2l
    fixed [] ∷  -- 144 d2f
    fixed [] ∷  -- 145 i2b
    fixed [] ∷  -- 146 i2c
    fixed [] ∷  -- 147 i2s
    fixed [] ∷  -- 148 lcmp
    fixed [] ∷  -- 149 fcmpl
    fixed [] ∷  -- 150 fcmpg
    fixed [] ∷  -- 151 dcmpl
    fixed [] ∷  -- 152 dcmpg
    fixed (branch 2 ∷ []) ∷  -- 153 ifeq
    fixed (branch 2 ∷ []) ∷  -- 154 ifne
    fixed (branch 2 ∷ []) ∷  -- 155 iflt
    fixed (branch 2 ∷ []) ∷  -- 156 ifge
    fixed (branch 2 ∷ []) ∷  -- 157 ifgt
    fixed (branch 2 ∷ []) ∷  -- 158 ifle
    fixed (branch 2 ∷ []) ∷  -- 159 if_icmpeq
    fixed (branch 2 ∷ []) ∷  -- 160 if_icmpne
    fixed (branch 2 ∷ []) ∷  -- 161 if_icmplt
    fixed (branch 2 ∷ []) ∷  -- 162 if_icmpge
    fixed (branch 2 ∷ []) ∷  -- 163 if_icmpgt
    fixed (branch 2 ∷ []) ∷  -- 164 if_icmple
    fixed (branch 2 ∷ []) ∷  -- 165 if_acmpeq
    fixed (branch 2 ∷ []) ∷  -- 166 if_acmpne
    fixed (branch 2 ∷ []) ∷  -- 167 goto
    fixed (branch 2 ∷ []) ∷  -- 168 jsr
    fixed (index 1 ∷ []) ∷  -- 169 ret
    tableswitch ∷  -- 170 tableswitch
    lookupswitch ∷  -- 171 lookupswitch
    fixed [] ∷  -- 172 ireturn
    fixed [] ∷  -- 173 lreturn
    fixed [] ∷  -- 174 freturn
    fixed [] ∷  -- 175 dreturn
    fixed [] ∷  -- 176 areturn
    fixed [] ∷  -- 177 return
    fixed (index 2 ∷ []) ∷  -- 178 getstatic
    fixed (index 2 ∷ []) ∷  -- 179 putstatic
    fixed (index 2 ∷ []) ∷  -- 180 getfield
    fixed (index 2 ∷ []) ∷  -- 181 putfield
    fixed (index 2 ∷ []) ∷  -- 182 invokevirtual
    fixed (index 2 ∷ []) ∷  -- 183 invokespecial
    fixed (index 2 ∷ []) ∷  -- 184 invokestatic
    fixed (index 2 ∷ count 1 ∷ zeros 1 ∷ []) ∷  -- 185 invokeinterface
    fixed (index 2 ∷ zeros 2 ∷ []) ∷  -- 186 invokedynamic
    fixed (index 2 ∷ []) ∷  -- 187 new
    fixed (atype 1 ∷ []) ∷  -- 188 newarray
    fixed (index 2 ∷ []) ∷  -- 189 anewarray
    fixed [] ∷  -- 190 arraylength
    fixed [] ∷  -- 191 athrow
    fixed (index 2 ∷ []) ∷  -- 192 checkcast
    fixed (index 2 ∷ []) ∷  -- 193 instanceof
    fixed [] ∷  -- 194 monitorenter
    fixed [] ∷  -- 195 monitorexit
    wide ∷  -- 196 wide
    fixed (index 2 ∷ dimensions 1 ∷ []) ∷  -- 197 multianewarray
    fixed (branch 2 ∷ []) ∷  -- 198 ifnull
    fixed (branch 2 ∷ []) ∷  -- 199 ifnonnull
    fixed (branch 4 ∷ []) ∷  -- 200 goto_w
    fixed (branch 4 ∷ []) ∷  -- 201 jsr_w
    []

abbrev pub format_in : List Format → ℕ → Format
format_in [] op = reserved
format_in (f ∷ fs) zero = f
format_in (f ∷ fs) (suc op) = format_in fs op

-- the format of an opcode
unfoldable pub format_of : ℕ → Format
unfolding formats
format_of op = format_in formats op
