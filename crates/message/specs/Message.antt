-- The message (document 01, "Action and cause"): the action, and the cause where a load is known.
-- Assumes nothing.
use Rattle.std.specs.Prelude.{ℕ, Bool, List, [], ◌++◌, Option, None, Some}
use Rattle.cell.specs.declared.Load.{Load}
use Rattle.basics.specs.Ascii.{ascii}
use Rattle.locals.specs.Name.{local_name}
use Rattle.fault.specs.declared.Action.{Action}
use Rattle.action.specs.Action.{action_text}
use Rattle.words.specs.declared.Wording.{Wording}

-- "the action, then ` because "N" is null`": the name is that of the local whose load stands at the load's index
unfoldable pub cause_text : Option Load → List ℕ → ℕ → List ℕ → Bool → List ℕ
cause_text None records count signature instance = []
cause_text (Some l) records count signature instance =
    ascii " because \"" ++ local_name records count signature instance l.local l.load ++ ascii "\" is null"

-- the action in a wording, and the cause where a load is known
unfoldable pub message_text : Wording → List ℕ → ℕ → Action → Option Load → List ℕ → ℕ → List ℕ → Bool → List ℕ
message_text wording members member_count action cause records record_count signature instance =
    action_text wording members member_count action ++ cause_text cause records record_count signature instance
