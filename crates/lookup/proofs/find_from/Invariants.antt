-- `lookup::find_from` meets its contract. The invariant: the lookup finds from here on what it finds from the start.
-- Assumes nothing.
use Prim.Native.Nat.{◌-◌}
use mathlib.Core.Path.{◌≡◌}
use Rattle.lookup.specs.Lookup.{member_found}
use Rattle.lookup.proofs.find_from.Given as goal

abbrev pub invariant-loop : goal.invariant-loop
invariant-loop l =
    member_found l.members l.index l.kind l.count l.above l.from
    ≡ member_found l.members l.index l.kind (l.count - l.counter) l.last l.at
