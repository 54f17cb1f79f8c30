-- `laying::put_number_at` meets its contract. The loop's invariant: whoever writes what is left, from the place reached on, has written
-- the number.
-- Assumes nothing.
use native.Mathlib.Omega.{arith}
use mathlib.Core.Path.{◌∙◌}
use Rattle.text.proofs.Writing.{written_length}
use Rattle.cases.proofs.Groups.{number_small}
use Rattle.laying.proofs.Groups.{low_group_written}
use Rattle.laying.proofs.put_number_at.Goals as goal

pub loop-left-preserved : goal.loop-left-preserved
loop-left-preserved c =
    let put = c.put_byte_at-next in
    let l = c.loop-left in (
      λ end after is. l.invariant.0 end after (low_group_written put.ensures is (omega arith) (omega arith) (omega arith) (omega arith)),
      written_length put.ensures ∙ l.invariant.1,
    )

pub returns : goal.returns
returns c =
    let l = c.loop-left in
    l.invariant.0 _ _ (rw (number_small l.left (omega arith)) c.put_byte_at.ensures)
