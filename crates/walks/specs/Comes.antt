-- The walk declared (document 01, "The walk"): where it comes to, and how it ends, without a count of turns. Over any way to write
-- slots, any table of rows and any lookup. proofs/Ends.antt has the proofs.
-- Assumes nothing.
use Rattle.std.specs.Prelude.{ℕ, ◌+◌, ◌≤◌, ◌<◌, ◌≡◌, List, [], length}
use Rattle.basics.specs.Bytes.{AreBytes}
use Rattle.effects.specs.Agreement.{Sized}
use Rattle.effects.specs.Lookup.{Lookup}
use Rattle.effects.specs.Rows.{Row}
use Rattle.walk.specs.Room.{completed}
use Rattle.walk.specs.Walk.{Reason, overshot, Marks, stops, goes, passes, Walked, done, failed, count_of, step, walk}

module _ {A : Type 0} (marks : Marks A) (rows : ℕ → Row) (lookup : Lookup) (code : List ℕ) (fault leader : ℕ) where
  -- The walk comes to an index with a slot list, after so many instructions; and so far every list is allowed.
  pub data ComesWhile (Allowed : List A → Type 0) : ℕ → ℕ → List A → Type 0 where
    -- "From the leader, empty list"
    first : ComesWhile Allowed 0 leader []
    then :
        {count pc next : ℕ} {list slots : List A} →
        ComesWhile Allowed count pc list → pc < fault → step marks rows lookup code fault pc list ≡ goes next slots →
        Allowed slots → ComesWhile Allowed (count + 1) next slots

  abbrev pub Comes : ℕ → ℕ → List A → Type 0
  Comes = ComesWhile (λ slots. Unit {0})

  -- in so much room
  abbrev pub ComesIn : ℕ → ℕ → ℕ → List A → Type 0
  ComesIn room = ComesWhile (λ slots. length slots ≤ room)

  -- the walk fails: after so many instructions, at an index, for a reason
  pub data Fails : ℕ → ℕ → Reason → Type 0 where
    -- the instruction there fails, and is not completed
    stopped :
        {count pc : ℕ} {list : List A} {reason : Reason} →
        Comes count pc list → pc < fault → step marks rows lookup code fault pc list ≡ stops reason → Fails count pc reason
    -- "An instruction is completed once its effect is applied, even if it passes the fault."
    passed :
        {count pc : ℕ} {list slots : List A} →
        Comes count pc list → pc < fault → step marks rows lookup code fault pc list ≡ passes slots →
        Fails (count + 1) pc overshot
    -- the leader lies behind the fault, and nothing is walked
    behind : fault < leader → Fails 0 leader overshot

  -- what an end of the walk means: "until the fault is reached exactly; passing it fails"
  abbrev pub Means : Walked A → Type 0
  Means (done slots count) = Comes count fault slots
  Means (failed count index reason) = Fails count index reason

-- ---- the statements

-- The walk's end means what it says, and no other end does. In every outcome its count is that of the instructions completed.
pub record WalkDeclared : Type 1 where
  pub means :
      (A : Type 0) (marks : Marks A) (rows : ℕ → Row) (lookup : Lookup) (code : List ℕ) (fault leader : ℕ) → Sized rows →
      AreBytes code → Means marks rows lookup code fault leader (walk marks rows lookup code fault leader)
  pub only :
      (A : Type 0) (marks : Marks A) (rows : ℕ → Row) (lookup : Lookup) (code : List ℕ) (fault leader : ℕ) → Sized rows →
      AreBytes code → (end : Walked A) → Means marks rows lookup code fault leader end →
      end ≡ walk marks rows lookup code fault leader
  pub counts :
      (A : Type 0) (marks : Marks A) (rows : ℕ → Row) (lookup : Lookup) (code : List ℕ) (fault leader : ℕ) →
      count_of (walk marks rows lookup code fault leader) ≡ length (completed marks rows lookup code fault leader)
