-- `methodlist::list_methods` meets its contract.
-- Assumes nothing.
use lib.ListN.{length}
use borrow.Author.Tests.{lt-ltb, le-ltb}
use Rattle.casefile.specs.Whole.{longest}
use Rattle.methodlist.specs.List.{list_answer, list_output}
use Rattle.methodlist.proofs.list_methods.Goals as goal

pub returns-then-file-gt-LONGEST : goal.returns-then-file-gt-LONGEST
unfolding list_answer list_output
returns-then-file-gt-LONGEST c =
    let long = lt-ltb longest (length c.args.file.now) c.if-file-gt-LONGEST.true in record { answers = rw long; leaves = rw long }

pub returns-then-read_u16-le-FEW : goal.returns-then-read_u16-le-FEW
unfolding list_answer list_output
returns-then-read_u16-le-FEW c =
    let short = le-ltb longest (length c.args.file.now) c.if-file-gt-LONGEST.false in record { answers = rw short c.list_within.ensures.answers; leaves = rw short c.list_within.ensures.leaves }

pub returns : goal.returns
unfolding list_answer list_output
returns c =
    let short = le-ltb longest (length c.args.file.now) c.if-file-gt-LONGEST.false in record { answers = rw short c.list_within-2.ensures.answers; leaves = rw short c.list_within-2.ensures.leaves }
