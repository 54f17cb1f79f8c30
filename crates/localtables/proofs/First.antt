-- The first record of a list, one record further and one table further; and it is the first that matches, as declared.
-- Assumes nothing.
use Rattle.std.specs.Prelude.{Option, Some, None}
use Prim.Native.Nat.{ℕ}
use native.Mathlib.Omega.{arith}
use mathlib.Core.Path.{◌≡◌, refl, ap, subst}
use mathlib.Core.Bool.{Bool, true, false}
use mathlib.Core.List.{List, [], ◌∷◌, ◌++◌}
use Rattle.basics.specs.Choice.{pick}
use Rattle.classformat.specs.Contents.{Local}
use Rattle.bodies.specs.Body.{record_of}
use Rattle.bodies.specs.declared.LocalPlace.{LocalPlace}
use Rattle.search.specs.Search.{covers}
use Rattle.localtables.specs.First.{Means, FirstLocalDeclared}
use Rattle.localtables.specs.Locals.{found_of, first_local}
use Rattle.localtables.specs.declared.LocalFound.{LocalFound}

module _ (slot load : ℕ) (l : Local) (ls : List Local) where
  first_matches :
      covers l.start l.size l.slot slot load ≡ true → first_local (l ∷ ls) slot load ≡ Some (found_of l)
  unfolding first_local
  first_matches e = rw e

  first_passes : covers l.start l.size l.slot slot load ≡ false → first_local (l ∷ ls) slot load ≡ first_local ls slot load
  unfolding first_local
  first_passes e = rw e

  -- by the record as it was read
  module _ (end : ℕ) {place : LocalPlace} (same : record_of l end ≡ place) where
    pub place_matches :
        covers place.start place.size place.slot slot load ≡ true →
        first_local (l ∷ ls) slot load ≡ Some (record { start = place.start; size = place.size; name = place.name })
    place_matches =
        subst
        (λ (p : LocalPlace).
        covers p.start p.size p.slot slot load ≡ true → first_local (l ∷ ls) slot load ≡ Some (record { start = p.start; size = p.size; name = p.name }))
        same first_matches

    pub place_passes :
        covers place.start place.size place.slot slot load ≡ false → first_local (l ∷ ls) slot load ≡ first_local ls slot load
    place_passes =
        subst
        (λ (p : LocalPlace).
        covers p.start p.size p.slot slot load ≡ false → first_local (l ∷ ls) slot load ≡ first_local ls slot load)
        same first_passes

-- of a table with others behind it
module _ (slot load : ℕ) (others : List Local) where
  pub found_first :
      (ls : List Local) {found : LocalFound} → first_local ls slot load ≡ Some found →
      first_local (ls ++ others) slot load ≡ Some found
  unfolding first_local
  found_first [] e = let z : ◌≡◌ {A = ℕ} 0 1 = cc in absurd (omega arith)
  found_first (l ∷ ls) {found} e = by (covers l.start l.size l.slot slot load) e (λ same. found_first ls same)
    where
      by :
          (t : Bool) → pick t (Some (found_of l)) (first_local ls slot load) ≡ Some found →
          (first_local ls slot load ≡ Some found → first_local (ls ++ others) slot load ≡ Some found) →
          pick t (Some (found_of l)) (first_local (ls ++ others) slot load) ≡ Some found
      by true same behind = same
      by false same behind = behind same

  pub missing_first :
      (ls : List Local) → first_local ls slot load ≡ None → first_local (ls ++ others) slot load ≡ first_local others slot load
  unfolding first_local
  missing_first [] e = refl
  missing_first (l ∷ ls) e = by (covers l.start l.size l.slot slot load) e (λ same. missing_first ls same)
    where
      by :
          (t : Bool) → pick t (Some (found_of l)) (first_local ls slot load) ≡ None →
          (first_local ls slot load ≡ None → first_local (ls ++ others) slot load ≡ first_local others slot load) →
          pick t (Some (found_of l)) (first_local (ls ++ others) slot load) ≡ first_local others slot load
      by true same behind = let z : ◌≡◌ {A = ℕ} 0 1 = cc in absurd (omega arith)
      by false same behind = behind same

-- ---- as declared

module _ (slot load : ℕ) (l : Local) (ls : List Local) where
  further :
      (found : Option LocalFound) → covers l.start l.size l.slot slot load ≡ false → Means slot load ls found → Means slot load (l ∷ ls) found
  further (Some found) other behind =
      record {
        before = l ∷ behind.before;
        first = behind.first;
        after = behind.after;
        order = ap (λ (all : List Local). l ∷ all) behind.order;
        none = (other, behind.none);
        matches = behind.matches;
        is = behind.is;
      }
  further None other behind = (other, behind)

  by_test :
      (t : Bool) → covers l.start l.size l.slot slot load ≡ t → Means slot load ls (first_local ls slot load) →
      Means slot load (l ∷ ls) (pick t (Some (found_of l)) (first_local ls slot load))
  by_test true e behind =
      record { before = []; first = l; after = ls; order = refl; none = tt; matches = e; is = (refl, refl, refl) }
  by_test false e behind = further (first_local ls slot load) e behind

pub first_local_declared : FirstLocalDeclared
unfolding first_local
first_local_declared slot load [] = tt
first_local_declared slot load (l ∷ ls) =
    by_test slot load l ls (covers l.start l.size l.slot slot load) refl (first_local_declared slot load ls)
