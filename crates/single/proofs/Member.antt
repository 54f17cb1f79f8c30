-- One member is enough: the lookup of its index finds the same, and the fault and the action ask for nothing else.
-- Rests on: the lookup in a run is the one over the list of its members (crates/cases); who finds the same is answered alike (Asked).
-- Assumes nothing.
use Prim.Native.Nat.{ℕ, ◌+◌, ◌<◌}
use native.Mathlib.Omega.{arith}
use mathlib.Core.Path.{◌≡◌, refl, ◌∙◌, sym, ap}
use mathlib.Core.Bool.{Bool, true, false}
use mathlib.Core.List.{List, [], ◌∷◌}
use lib.Dec.{eqb}
use lib.ListN.{length}
use Rattle.basics.specs.Bytes.{u16_at}
use Rattle.basics.specs.Choice.{pick}
use Rattle.basics.proofs.Choice.{chosen}
use Rattle.cases.specs.LaidOut.{Member, texts_bytes, members_bytes, RightMembers, none, more}
use Rattle.cases.specs.Lookup.{found_in}
use Rattle.cases.proofs.Found.{found_among, in_run}
use Rattle.single.specs.Single.{first, has_index, only, cited, OneIsEnough}
use Rattle.single.proofs.Asked.{fault_alike, action_alike}
use Rattle.single.proofs.First.{at_most_one, first_alone}

-- the texts of the one member, where it has the kind
abbrev texts_in : ℕ → List Member → List ℕ
texts_in kind [] = []
texts_in kind (m ∷ ms) = pick (eqb m.kind kind) (texts_bytes m) []

-- they are what is found among all
found_first : (index kind : ℕ) (ms : List Member) → found_among index kind ms ≡ texts_in kind (only index ms)
unfolding first
found_first index kind [] = refl
found_first index kind (m ∷ ms) = by_test (eqb m.index index) refl (found_first index kind ms)
  where
    by_test :
        (t : Bool) → eqb m.index index ≡ t → found_among index kind ms ≡ texts_in kind (only index ms) →
        found_among index kind (m ∷ ms) ≡ texts_in kind (only index (m ∷ ms))
    by_test true e rest = rw e
    by_test false e rest = rw e rest

-- indexes that are above a number are above a smaller one
above_less : {less last : ℕ} {ms : List Member} → less < last → RightMembers last ms → RightMembers less ms
above_less below none = none
above_less {less} below (more {m = m} above right rest) =
    let higher : less < m.index = omega (arith, below, above) in
    more higher right rest

stays_right : {last : ℕ} (index : ℕ) (ms : List Member) → RightMembers last ms → RightMembers last (only index ms)
unfolding first
stays_right index [] right = right
stays_right {last} index (m ∷ ms) (more above right rest) =
    chosen (λ (l : List Member). RightMembers last l) (has_index index m) (m ∷ []) (only index ms) (more above right none)
    (above_less above (stays_right index ms rest))

module _ (ms : List Member) (right : RightMembers 0 ms) where
  found : (index kind : ℕ) → found_in (only index ms) index kind ≡ found_in ms index kind
  found index kind =
      in_run (only index ms) (stays_right index ms right) index kind
      ∙ found_first index kind (only index ms)
      ∙ ap (texts_in kind) (first_alone (has_index index) ms)
      ∙ sym (in_run ms right index kind ∙ found_first index kind ms)

pub one_is_enough : OneIsEnough
one_is_enough =
    record {
      single = λ index. at_most_one (has_index index);
      right = stays_right;
      found = found;
      fault =
          λ ms right code fault.
          fault_alike (members_bytes (cited code fault ms)) (members_bytes ms) (length (cited code fault ms)) (length ms)
          (u16_at code (fault + 1)) (found ms right (u16_at code (fault + 1))) code fault refl;
      action =
          λ wording ms right op index.
          action_alike (members_bytes (only index ms)) (members_bytes ms) (length (only index ms)) (length ms) index (found ms right index)
          wording op;
    }
