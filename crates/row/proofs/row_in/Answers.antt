-- `row::row_in` meets its contract. A case on the key.
-- Assumes nothing.
use Prim.Native.Nat.{ℕ, ◌+◌}
use native.Mathlib.Omega.{arith}
use Rattle.row.proofs.Few.{few_so}
use Rattle.row.proofs.row_in.Goals as goal

pub returns-in-Plain : goal.returns-in-Plain
returns-in-Plain c =
    let a = c.args in
    let op : ℕ = c.in-Plain.op in
    let few = few_so a.model op (omega (arith, c.in-Plain.known_told-1-own.given)) c.plain_row.result c.plain_row.ensures in
    record { row = rw c.in-Plain.is c.plain_row.ensures; few = few }

pub returns-in-Wide : goal.returns-in-Wide
returns-in-Wide c =
    let a = c.args in
    let op : ℕ = c.in-Wide.op in
    let few = few_so a.model (256 + op) (omega (arith, c.in-Wide.known_told-in-Wide-1-own.given)) c.wide_row.result c.wide_row.ensures in
    record { row = rw c.in-Wide.is c.wide_row.ensures; few = few }
