-- `utf8::turn_at` meets its contract. Six bytes are looked at, 0 past the end.
-- Assumes nothing.
use mathlib.Core.Path.{subst}
use Rattle.utf8.specs.Turning.{Turned, TurnIs}
use Rattle.utf8.proofs.Sizes.{turn_from}
use Rattle.utf8.proofs.turn_at.Goals as goal

pub returns : goal.returns
returns c =
    let a = c.args in
    subst (λ (t : Turned). TurnIs c.turn_by.result t)
    (turn_from a.text.now a.at
    c.byte_at.result c.byte_at-2.result
    c.byte_at-3.result c.byte_at-4.result
    c.byte_at-5.result c.byte_at-6.result
    c.byte_at.ensures c.byte_at-2.ensures
    c.byte_at-3.ensures c.byte_at-4.ensures
    c.byte_at-5.ensures c.byte_at-6.ensures)
    c.turn_by.ensures
