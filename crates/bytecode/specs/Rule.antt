-- A length rule: a way to measure that gives document 01's length wherever it gives one. Document 01's own is one; the one in use, which
-- gives reserved bytes no length, is another. That a length is at least 1 and passes no end follows (proofs/Laws.antt:
-- `rule_positive`, `rule_inside`).
-- Assumes nothing.
use Rattle.std.specs.Prelude.{ℕ, ◌≡◌, Bool, true, false, List, Result, Ok, Err}
use Rattle.std.proofs.Common.{arith}
use Rattle.basics.specs.Bytes.{byte_at}
use Rattle.basics.specs.Choice.{pick}
use Rattle.bytecode.specs.Length.{document_length, reserved_byte, length_of}
use Rattle.bytecode.specs.declared.Unmeasured.{Unmeasured}
use Rattle.bytecode.specs.declared.Unmeasured.TheVariants.{Reserved}

pub record LengthRule : Type 0 where
  -- what measuring at an index of a code answers
  pub measure : List ℕ → ℕ → Result ℕ Unmeasured
  -- it is document 01's where given
  pub documented : (code : List ℕ) (pc n : ℕ) → measure code pc ≡ Ok n → document_length code pc ≡ Ok n

-- document 01's own
abbrev pub document_rule : LengthRule
document_rule = record { measure = document_length; documented = λ code pc n e. e }

-- a length that is given is not withheld
not_withheld : (withheld : Bool) (answer : Result ℕ Unmeasured) (n : ℕ) → pick withheld (Err Reserved) answer ≡ Ok n → answer ≡ Ok n
not_withheld true answer n e = let z : ◌≡◌ {A = ℕ} 0 1 = cc in absurd (omega arith)
not_withheld false answer n e = e

pub length_documented : (code : List ℕ) (pc n : ℕ) → length_of code pc ≡ Ok n → document_length code pc ≡ Ok n
unfolding length_of
length_documented code pc n e = not_withheld (reserved_byte (byte_at code pc)) (document_length code pc) n e

-- the one in use
abbrev pub length_rule : LengthRule
length_rule = record { measure = length_of; documented = length_documented }
