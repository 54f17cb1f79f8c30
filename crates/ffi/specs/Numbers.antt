-- The C interface over a case: what its functions answer, as structs of numbers (crates/structs), and what they leave in lent slices.
-- Assumes nothing.
use Rattle.std.specs.Prelude.{ℕ, List, replicate, Result, Ok, Err, Option, Some, None}
use Rattle.effects.specs.declared.Model.{Model}
use Rattle.effects.specs.declared.Model.TheVariants.{Document}
use Rattle.walk.specs.Room.{Roomed, block_walk_in, answer_of, cells_of}
use Rattle.casefile.specs.Parts.{Parts, parts_of}
use Rattle.casefile.specs.declared.Places.{Places}
use Rattle.casefile.specs.declared.CaseError.{CaseError}
use Rattle.casefile.specs.declared.CaseError.TheVariants as cases
use Rattle.descriptor.specs.declared.Params.{Params}
use Rattle.locals.specs.Name.{is_instance, local_name}
use Rattle.names.specs.Names.{parameter_names}
use Rattle.answer.specs.Answer.{Said, said, answer_by, output_by}
use Rattle.answer.specs.declared.Report.{Report}
use Rattle.answer.specs.declared.Report.TheVariants.{Broken, TooLong}
use Rattle.structs.specs.Structs.{walk_numbers, unread, list_numbers}
use Rattle.structs.specs.declared.KorsepalParameters.{KorsepalParameters}
use Rattle.structs.specs.declared.KorsepalWalk.{KorsepalWalk}

-- ---- the walk of a case's block in a model, alone

-- of the parts of a case
abbrev pub walk_in : Model → Parts → ℕ → ℕ → ℕ → Roomed ℕ
walk_in model p leader fault room = block_walk_in model p.code p.members p.member_count leader fault room

abbrev pub case_walk_in : Model → List ℕ → ℕ → ℕ → ℕ → Result Places CaseError → KorsepalWalk
case_walk_in model bytes leader fault room (Ok places) =
    walk_numbers (answer_of (walk_in model (parts_of bytes places) leader fault room))
case_walk_in model bytes leader fault room (Err error) = unread (Err error)

-- In document 01's model.
abbrev pub case_walk : List ℕ → ℕ → ℕ → ℕ → Result Places CaseError → KorsepalWalk
case_walk = case_walk_in Document

-- "the stack as document 01 says of the walk alone, all zero for 2 and 5"
abbrev pub case_cells_in : Model → List ℕ → ℕ → ℕ → ℕ → Result Places CaseError → List ℕ
case_cells_in model bytes leader fault room (Ok places) = cells_of room (walk_in model (parts_of bytes places) leader fault room)
case_cells_in model bytes leader fault room (Err error) = replicate room 0

abbrev pub case_cells : List ℕ → ℕ → ℕ → ℕ → Result Places CaseError → List ℕ
case_cells = case_cells_in Document

-- ---- texts that are written where they fit, and else measured

-- a text that is said, with no kind and no counts
abbrev pub spoken : List ℕ → Said
spoken text = said text 0 0 0

-- the name of a local whose load stands at an index
abbrev pub name_in : Parts → ℕ → ℕ → List ℕ
name_in p local load = local_name p.records p.record_count p.signature (is_instance p.flags) local load

abbrev pub case_name : List ℕ → ℕ → ℕ → ℕ → Result Places CaseError → Report
case_name bytes local load room (Ok places) = answer_by (spoken (name_in (parts_of bytes places) local load)) room
case_name bytes local load room (Err (cases.Wrong offset)) = Broken offset
case_name bytes local load room (Err cases.TooLong) = TooLong

abbrev pub case_named : List ℕ → ℕ → ℕ → List ℕ → Result Places CaseError → List ℕ
case_named bytes local load out (Ok places) = output_by (spoken (name_in (parts_of bytes places) local load)) out
case_named bytes local load out (Err error) = out

-- 1 unreadable
abbrev pub parameter_numbers : List ℕ → ℕ → Option Params → KorsepalParameters
parameter_numbers text room (Some p) = list_numbers p.slots (answer_by (spoken (parameter_names text)) room)
parameter_numbers text room None = record { status = 1; slots = 0; length = 0 }

abbrev pub parameters_in : List ℕ → List ℕ → Option Params → List ℕ
parameters_in text out (Some p) = output_by (spoken (parameter_names text)) out
parameters_in text out None = out
