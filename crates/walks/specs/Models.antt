-- What of a walk stays where its table of rows is extended, and where its lookup knows other members. Over any way to write slots.
-- proofs/Extends.antt and proofs/Asks.antt have the proofs.
-- Assumes nothing.
use Rattle.std.specs.Prelude.{ℕ, ◌+◌, ◌<◌, ◌≡◌, List, ◌++◌, T}
use Rattle.basics.specs.Bytes.{u16_at}
use Rattle.jvms.specs.Stack.{key_at}
use Rattle.effects.specs.Agreement.{is_modelled}
use Rattle.effects.specs.Lookup.{Lookup}
use Rattle.effects.specs.Rows.{Row, unmodelled, opaque, aload, aload_far, aload_of, carries, keeps, gets, calls, puts, makes}
use Rattle.walk.specs.Room.{Completed, completed, judged}
use Rattle.walk.specs.Walk.{not_modelled, Marks, failed, walk}
use Rattle.walks.specs.Comes.{ComesIn}

-- ---- another table

-- whatever the one table models, the other models alike
abbrev pub Extends : (ℕ → Row) → (ℕ → Row) → Type 0
Extends rows more = (key : ℕ) → T (is_modelled (rows key)) → more key ≡ rows key

-- A walk by the other is the walk by the one in everything, slots, count, reason and heights, unless the one fails for an instruction
-- that is not modelled (or whose dimensions are 0, which is the same reason).
abbrev pub WalkExtends : Type 1
WalkExtends =
    (A : Type 0) (marks : Marks A) (rows more : ℕ → Row) → Extends rows more →
    (lookup : Lookup) (code : List ℕ) (fault leader : ℕ) →
    ((count index : ℕ) → walk marks rows lookup code fault leader ≡ failed count index not_modelled → ⊥) →
    (walk marks more lookup code fault leader ≡ walk marks rows lookup code fault leader)
    × (completed marks more lookup code fault leader ≡ completed marks rows lookup code fault leader)

-- And however the one ends, the instructions that it completes are the first that the other completes, with the same heights.
abbrev pub WalkReaches : Type 1
WalkReaches =
    (A : Type 0) (marks : Marks A) (rows more : ℕ → Row) → Extends rows more →
    (lookup : Lookup) (code : List ℕ) (fault leader : ℕ) →
    (rest : List Completed)
    × (completed marks more lookup code fault leader ≡ completed marks rows lookup code fault leader ++ rest)

-- ---- another lookup

-- two lookups know the same of the member that a row asks for: a field, kind 0, or a method, kind 1
abbrev pub AlikeFor : Row → Lookup → Lookup → List ℕ → ℕ → Type 0
AlikeFor unmodelled one other code pc = Unit {0}
AlikeFor (opaque taken given) one other code pc = Unit {0}
AlikeFor aload one other code pc = Unit {0}
AlikeFor aload_far one other code pc = Unit {0}
AlikeFor (aload_of local) one other code pc = Unit {0}
AlikeFor (carries taken places) one other code pc = Unit {0}
AlikeFor keeps one other code pc = Unit {0}
AlikeFor (gets taken) one other code pc = one 0 (u16_at code (pc + 1)) ≡ other 0 (u16_at code (pc + 1))
AlikeFor (calls taken) one other code pc = one 1 (u16_at code (pc + 1)) ≡ other 1 (u16_at code (pc + 1))
AlikeFor (puts taken) one other code pc = one 0 (u16_at code (pc + 1)) ≡ other 0 (u16_at code (pc + 1))
AlikeFor makes one other code pc = Unit {0}

-- What the instructions ask for that the walk comes to, before it stops or lacks room, decides it. Other members change nothing.
abbrev pub WalkAsks : Type 1
WalkAsks =
    (A : Type 0) (marks : Marks A) (rows : ℕ → Row) (one other : Lookup) (code : List ℕ) (fault leader room : ℕ) →
    ((count pc : ℕ) (list : List A) → ComesIn marks rows one code fault leader room count pc list → pc < fault →
    AlikeFor (rows (key_at code pc)) one other code pc) →
    judged room (completed marks rows one code fault leader) (walk marks rows one code fault leader)
    ≡ judged room (completed marks rows other code fault leader) (walk marks rows other code fault leader)
