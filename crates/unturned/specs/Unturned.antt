-- The readers of descriptors answer the same before a text of a class file is turned and after, as a statement (document 02, request 3).
-- So a walk over a class file reads the slots of a member in the file itself, and gets the answers for the case with the same parts.
-- proofs/Slots.antt has a proof.
-- Assumes nothing.
use Rattle.std.specs.Prelude.{ℕ, true, List, ◌≡◌, Option, Some, None}
use Rattle.descriptor.specs.Readers.{parameters, return_slots, field_slots}
use Rattle.descriptor.specs.declared.Params.{Params}
use Rattle.utf8.specs.Turning.{is_modified, turned}

-- the slots of the parameters of a call, without the index where their list ends, which turning may move
abbrev pub call_slots : Option Params → Option ℕ
call_slots (Some p) = Some p.slots
call_slots None = None

-- ---- the statement

-- what a reader answers of a turned text, it answers of the text
abbrev pub AsTurned : {A : Type 0} → (List ℕ → A) → Type 0
AsTurned reader = (text : List ℕ) → is_modified text ≡ true → reader (turned text) ≡ reader text

pub record SlotsAsTurned : Type 0 where
  pub field : AsTurned field_slots
  pub arguments : AsTurned (λ text. call_slots (parameters text))
  pub returns : AsTurned return_slots
