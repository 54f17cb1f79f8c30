-- The search answers the first record that matches.
-- Assumes nothing.
use Rattle.std.specs.Prelude.{Option, Some, None}
use Prim.Native.Nat.{ℕ}
use mathlib.Core.Path.{◌≡◌, refl, ap}
use mathlib.Core.Bool.{Bool, true, false}
use mathlib.Core.List.{List, [], ◌∷◌}
use Rattle.basics.specs.Choice.{pick}
use Rattle.tables.specs.declared.RecordPlace.{RecordPlace}
use Rattle.search.specs.First.{Matches, Means, FirstMatchDeclared}
use Rattle.search.specs.Search.{covers, first_match}

module _ (slot load : ℕ) (r : RecordPlace) (rs : List RecordPlace) where
  -- a record before the first that does not match
  further : (found : Option (ℕ × ℕ)) → (Matches slot load r → ⊥) → Means slot load rs found → Means slot load (r ∷ rs) found
  further (Some (from, to)) other is =
      record {
        before = r ∷ is.before;
        first = is.first;
        after = is.after;
        order = ap (λ (l : List RecordPlace). r ∷ l) is.order;
        none = (other, is.none);
        matches = is.matches;
        name = is.name;
      }
  further None other is = (other, is)

  by_test :
      (t : Bool) → covers r.start r.length r.slot slot load ≡ t → Means slot load rs (first_match rs slot load) →
      Means slot load (r ∷ rs) (pick t (Some (r.name, r.next)) (first_match rs slot load))
  by_test true e rest =
      record {
        before = [];
        first = r;
        after = rs;
        order = refl;
        none = tt;
        matches = rw e tt;
        name = (refl, refl);
      }
  by_test false e rest = further (first_match rs slot load) (λ m. rw e at m) rest

pub first_match_declared : FirstMatchDeclared
unfolding first_match
first_match_declared [] slot load = tt
first_match_declared (r ∷ rs) slot load =
    by_test slot load r rs (covers r.start r.length r.slot slot load) refl (first_match_declared rs slot load)
