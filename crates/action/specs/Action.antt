-- The action that failed, in words (document 01, "Action and cause").
-- Assumes nothing.
use Rattle.std.specs.Prelude.{ℕ, List}
use Rattle.basics.specs.Ascii.{ascii}
use Rattle.items.specs.Text.{name_of}
use Rattle.lookup.specs.Lookup.{member_found}
use Rattle.fault.specs.declared.Action.{Action}
use Rattle.fault.specs.declared.Action.TheVariants.{ReadField, AssignField, Invoke, LoadArray, StoreArray, ReadLength, ThrowException, EnterBlock, ExitBlock}
use Rattle.words.specs.Words.{quoted, invoke_text, array_text}
use Rattle.words.specs.declared.Wording.{Wording}

-- the action in a wording, whose member is looked up among so many
unfoldable pub action_text : Wording → List ℕ → ℕ → Action → List ℕ
action_text wording members count (ReadField index) = quoted (ascii "Cannot read field ") (name_of (member_found members index 0 count 0 0))
action_text wording members count (AssignField index) = quoted (ascii "Cannot assign field ") (name_of (member_found members index 0 count 0 0))
action_text wording members count (Invoke index) = invoke_text (member_found members index 1 count 0 0)
action_text wording members count (LoadArray element) = array_text wording (ascii "Cannot load from ") element
action_text wording members count (StoreArray element) = array_text wording (ascii "Cannot store to ") element
action_text wording members count ReadLength = ascii "Cannot read the array length"
action_text wording members count ThrowException = ascii "Cannot throw exception"
action_text wording members count EnterBlock = ascii "Cannot enter synchronized block"
action_text wording members count ExitBlock = ascii "Cannot exit synchronized block"
