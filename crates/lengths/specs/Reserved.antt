-- Reserved bytes (document 02, request 6): which they are, what measuring answers of them, and that it answers nothing else anew.
-- proofs/Reserved.antt has the proof.
-- Assumes nothing.
use Rattle.std.specs.Prelude.{ℕ, ◌+◌, ◌≤◌, ◌<◌, ◌≡◌, List, length, Ok, Err}
use Rattle.basics.specs.Bytes.{byte_at}
use Rattle.jvms.specs.Format.{reserved, format_of}
use Rattle.bytecode.specs.Length.{bytes_of, within, document_length, length_of}
use Rattle.bytecode.specs.declared.Unmeasured.TheVariants.{NoLength, Reserved}

pub record ReservedBytes : Type 0 where
  -- they are exactly the bytes for which JVMS 6.5 has no instruction
  pub no_instruction : (op : ℕ) → op < 256 → 202 ≤ op → format_of op ≡ reserved
  pub no_other : (op : ℕ) → op < 256 → format_of op ≡ reserved → 202 ≤ op
  -- measuring says so of each that stands in the code, and of nothing else
  pub always : (code : List ℕ) (pc : ℕ) → 202 ≤ byte_at code pc → length_of code pc ≡ Err Reserved
  pub only : (code : List ℕ) (pc : ℕ) → length_of code pc ≡ Err Reserved → (pc < length code) × (202 ≤ byte_at code pc)
  -- at any other byte, and past the end, it answers what document 01 does
  pub elsewhere : (code : List ℕ) (pc : ℕ) → byte_at code pc < 202 → length_of code pc ≡ document_length code pc
  -- an instruction is cut exactly where its opcode is not reserved and its bytes pass the end
  pub cut : (code : List ℕ) (pc : ℕ) → byte_at code pc < 202 → length code < pc + bytes_of code pc → length_of code pc ≡ Err NoLength
  pub only_cut :
      (code : List ℕ) (pc : ℕ) → length_of code pc ≡ Err NoLength → (byte_at code pc < 202) × (length code < pc + bytes_of code pc)
  -- so it is past the end, where there is no byte
  pub past_end : (code : List ℕ) (pc : ℕ) → length code ≤ pc → length_of code pc ≡ Err NoLength
  -- only an opcode is reserved, no operand: `wide` before such a byte keeps its four
  pub widened : (code : List ℕ) (pc : ℕ) → byte_at code pc ≡ 196 → 202 ≤ byte_at code (pc + 1) → length_of code pc ≡ within code pc 4
  -- document 01 counts one byte
  pub was_one : (code : List ℕ) (pc : ℕ) → byte_at code pc < 256 → 202 ≤ byte_at code pc → document_length code pc ≡ Ok 1
