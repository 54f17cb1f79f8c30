-- The walk in a lent stack of cells (document 01, "Numbers returned"): "the height after some instruction completed by the walk
-- exceeds the lent stack", at the first such index; and what the cells hold at exit.
-- Assumes nothing.
use Rattle.std.specs.Prelude.{ℕ, zero, suc, ◌-◌, ◌≡◌, List, [], ◌∷◌, ◌++◌, leb, ltb, length, replicate}
use Rattle.basics.specs.Choice.{pick}
use Rattle.effects.specs.Lookup.{Lookup, lookup_in}
use Rattle.effects.specs.Rows.{Row, rows_of}
use Rattle.effects.specs.declared.Model.{Model}
use Rattle.effects.specs.declared.Model.TheVariants.{Document}
use Rattle.walk.specs.Walk.{Marks, cells, Outcome, stops, goes, passes, Walked, done, failed, step, walk}
use Rattle.walk.specs.declared.Walk.{Walk}
use Rattle.walk.specs.declared.Walk.TheVariants.{Done, Failed, NoRoom}

-- an instruction that the walk completed, and the height after it
pub record Completed : Type 0 where
  pub index : ℕ
  pub height : ℕ

module _ {A : Type 0} (marks : Marks A) (rows : ℕ → Row) (lookup : Lookup) (code : List ℕ) (fault : ℕ) where
  abbrev pub completing : Outcome A → ℕ → (ℕ → List A → List Completed) → List Completed
  completing (stops reason) pc following = []
  completing (goes next slots) pc following = record { index = pc; height = length slots } ∷ following next slots
  completing (passes slots) pc following = record { index = pc; height = length slots } ∷ []

  unfoldable pub completed_from : ℕ → ℕ → List A → List Completed
  completed_from zero pc slots = []
  completed_from (suc turns) pc slots =
      pick (ltb pc fault)
      (completing (step marks rows lookup code fault pc slots) pc (λ next list. completed_from turns next list))
      []

  -- the instructions that the walk completes, in their order
  unfoldable pub completed : ℕ → List Completed
  completed leader = completed_from (fault - leader) leader []

pub data Roomed (A : Type 0) : Type 0 where
  lacks : ℕ → Roomed A
  fits : Walked A → Roomed A

-- the first whose height exceeds the room, else what the walk ends with
abbrev pub judged : {A : Type 0} → ℕ → List Completed → Walked A → Roomed A
judged room [] walked = fits walked
judged room (c ∷ cs) walked = pick (leb c.height room) (judged room cs walked) (lacks c.index)

-- the walk over the parts of a case by a table of rows: the code, a member run of so many members, the leader, the fault, the room
abbrev pub block_walk_by : (ℕ → Row) → List ℕ → List ℕ → ℕ → ℕ → ℕ → ℕ → Roomed ℕ
block_walk_by rows code members count leader fault room =
    judged room (completed cells rows (lookup_in members count) code fault leader)
    (walk cells rows (lookup_in members count) code fault leader)

-- by the rows of a model, and by document 01's
unfoldable pub block_walk_in : Model → List ℕ → List ℕ → ℕ → ℕ → ℕ → ℕ → Roomed ℕ
block_walk_in model code members count leader fault room = block_walk_by (rows_of model) code members count leader fault room

abbrev pub block_walk : List ℕ → List ℕ → ℕ → ℕ → ℕ → ℕ → Roomed ℕ
block_walk code members count leader fault room = block_walk_in Document code members count leader fault room

-- what the walk alone answers
abbrev pub answer_of : Roomed ℕ → Walk
answer_of (lacks index) = NoRoom index
answer_of (fits (done slots count)) = Done (length slots) count
answer_of (fits (failed count index reason)) = Failed count

-- cells that show a slot list
abbrev pub shown : ℕ → List ℕ → List ℕ
shown room slots = slots ++ replicate (room - length slots) 0

-- "leaves its slots in the first cells, bottom first, and zero after them; where it lacks room (3, tested first) or fails, all zero"
abbrev pub cells_of : ℕ → Roomed ℕ → List ℕ
cells_of room (lacks index) = replicate room 0
cells_of room (fits (done slots count)) = shown room slots
cells_of room (fits (failed count index reason)) = replicate room 0

-- what a walk in a model over the cells of a lent stack answers, and the cells that it leaves there
pub record WalksIn (model : Model) (code members : List ℕ) (count leader fault : ℕ) (stack : List ℕ) (answer : Walk)
    (left : List ℕ) : Type 0 where
  pub answers : answer ≡ answer_of (block_walk_in model code members count leader fault (length stack))
  pub leaves : left ≡ cells_of (length stack) (block_walk_in model code members count leader fault (length stack))

-- in document 01's
abbrev pub Walks : List ℕ → List ℕ → ℕ → ℕ → ℕ → List ℕ → Walk → List ℕ → Type 0
Walks code members count leader fault stack answer left = WalksIn Document code members count leader fault stack answer left

-- an answer as numbers: 0 with height and count, 1 with the count, document 01's 3 with the index
unfoldable pub numbered : Walk → List ℕ
numbered (Done height count) = 0 ∷ height ∷ count ∷ []
numbered (Failed count) = 1 ∷ count ∷ []
numbered (NoRoom index) = 3 ∷ index ∷ []
