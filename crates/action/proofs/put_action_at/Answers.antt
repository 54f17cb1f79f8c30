-- `action::put_action_at` meets its contract. Each arm by what its writer writes, of the member that the action cites.
-- Assumes nothing.
use Rattle.action.specs.Action.{action_text}
use Rattle.action.proofs.put_action_at.Goals as goal

pub returns-in-ReadField : goal.returns-in-ReadField
unfolding action_text
returns-in-ReadField c =
    rw (
      c.in-ReadField.is,
      ← c.find_member-texts.ensures,
      ← c.name_of.ensures,
    ) c.put_quoted_at.ensures

pub returns-in-AssignField : goal.returns-in-AssignField
unfolding action_text
returns-in-AssignField c =
    rw (
      c.in-AssignField.is,
      ← c.find_member-texts-in-AssignField.ensures,
      ← c.name_of-in-AssignField.ensures,
    ) c.put_quoted_at-in-AssignField.ensures

pub returns-in-Invoke : goal.returns-in-Invoke
unfolding action_text
returns-in-Invoke c =
    rw (
      c.in-Invoke.is,
      ← c.find_member.ensures,
    ) c.put_invoke_at.ensures

pub returns-in-LoadArray : goal.returns-in-LoadArray
unfolding action_text
returns-in-LoadArray c = rw c.in-LoadArray.is c.put_array_at.ensures

pub returns-in-StoreArray : goal.returns-in-StoreArray
unfolding action_text
returns-in-StoreArray c = rw c.in-StoreArray.is c.put_array_at-in-StoreArray.ensures

pub returns-in-ReadLength : goal.returns-in-ReadLength
unfolding action_text
returns-in-ReadLength c = rw c.in-ReadLength.is c.put_at.ensures

pub returns-in-ThrowException : goal.returns-in-ThrowException
unfolding action_text
returns-in-ThrowException c = rw c.in-ThrowException.is c.put_at-in-ThrowException.ensures

pub returns-in-EnterBlock : goal.returns-in-EnterBlock
unfolding action_text
returns-in-EnterBlock c = rw c.in-EnterBlock.is c.put_at-in-EnterBlock.ensures

pub returns-in-ExitBlock : goal.returns-in-ExitBlock
unfolding action_text
returns-in-ExitBlock c = rw c.in-ExitBlock.is c.put_at-in-ExitBlock.ensures
