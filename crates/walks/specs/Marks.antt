-- Two ways to write slots: the walks go alike. proofs/Alike.antt has the proof.
-- Assumes nothing.
use Rattle.std.specs.Prelude.{ℕ, ◌<◌, ◌≡◌, List, length}
use Rattle.basics.specs.Each.{Each}
use Rattle.jvms.specs.Stack.{key_at}
use Rattle.effects.specs.Lookup.{Lookup}
use Rattle.effects.specs.Rows.{Row}
use Rattle.walk.specs.Room.{completed}
use Rattle.walk.specs.Walk.{Reason, Marks, load, does, effect_by, Walked, done, failed, walk}

-- What one writes and what the other writes belong together, at every instruction of the code, and of a load for the local that
-- the instruction loads. Both can write the same loads.
pub record Related
    {A B : Type 0} (R : A → B → Type 0) (one : Marks A) (other : Marks B) (rows : ℕ → Row) (lookup : Lookup) (code : List ℕ) :
    Type 0 where
  pub blanks : (pc : ℕ) → pc < length code → R (one.blank pc) (other.blank pc)
  pub loads :
      (pc takes local : ℕ) → pc < length code → effect_by lookup code pc (rows (key_at code pc)) ≡ does takes (load local) →
      R (one.mark pc local) (other.mark pc local)
  pub holds :
      (pc takes local : ℕ) → pc < length code → effect_by lookup code pc (rows (key_at code pc)) ≡ does takes (load local) →
      one.holds pc local ≡ other.holds pc local

-- both succeed in as many instructions, with slots that belong together; or both fail there and for the same reason
pub data EndAlike {A B : Type 0} (R : A → B → Type 0) : Walked A → Walked B → Type 0 where
  both_done : {slots : List A} {others : List B} {count : ℕ} → Each R slots others → EndAlike R (done slots count) (done others count)
  both_failed : {count index : ℕ} {reason : Reason} → EndAlike R (failed count index reason) (failed count index reason)

-- and every instruction leaves as many slots by either
abbrev pub WalkBoth : Type 1
WalkBoth =
    (A B : Type 0) (R : A → B → Type 0) (one : Marks A) (other : Marks B) (rows : ℕ → Row) (lookup : Lookup) (code : List ℕ) →
    Related R one other rows lookup code → (fault leader : ℕ) →
    EndAlike R (walk one rows lookup code fault leader) (walk other rows lookup code fault leader)
    × (completed one rows lookup code fault leader ≡ completed other rows lookup code fault leader)
