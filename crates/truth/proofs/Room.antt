-- A walk that had room is the walk without room, and the cells that it leaves show its slots.
-- Assumes nothing.
use Prim.Native.Nat.{ℕ, ◌-◌}
use native.Mathlib.Omega.{arith}
use mathlib.Core.Path.{◌≡◌, refl, ◌∙◌, sym, ap}
use mathlib.Core.Bool.{Bool, true, false}
use mathlib.Core.List.{List, [], ◌∷◌}
use lib.Dec.{leb}
use lib.ListN.{length, take, replicate}
use lib.Seq.{take_at}
use Rattle.basics.specs.Choice.{pick}
use Rattle.walk.specs.Room.{Completed, Roomed, lacks, fits, judged, answer_of, cells_of}
use Rattle.walk.specs.Walk.{Walked, done, failed}
use Rattle.walk.specs.declared.Walk.TheVariants.{Done}

pub record Fitted (room : ℕ) (completed : List Completed) (walked : Walked ℕ) (height count : ℕ) : Type 0 where
  pub slots : List ℕ
  pub succeeds : walked ≡ done slots count
  pub tall : height ≡ length slots
  pub shows : take height (cells_of room (judged room completed walked)) ≡ slots

-- an answer that is not the lack of room is the walk's
has_room :
    (room : ℕ) (completed : List Completed) (walked : Walked ℕ) (height count : ℕ) →
    answer_of (judged room completed walked) ≡ Done height count → judged room completed walked ≡ fits walked
has_room room [] walked height count e = refl
has_room room (c ∷ cs) walked height count e = by_test (leb c.height room) (has_room room cs walked height count) e
  where
    by_test :
        (b : Bool) → (answer_of (judged room cs walked) ≡ Done height count → judged room cs walked ≡ fits walked) →
        answer_of (pick b (judged room cs walked) (lacks c.index)) ≡ Done height count →
        pick b (judged room cs walked) (lacks c.index) ≡ fits walked
    by_test true rest q = rest q
    by_test false rest q = let z : ◌≡◌ {A = ℕ} 0 1 = cc in absurd (omega arith)

pub fitted :
    (room : ℕ) (completed : List Completed) (walked : Walked ℕ) (height count : ℕ) →
    answer_of (judged room completed walked) ≡ Done height count → Fitted room completed walked height count
fitted room completed walked height count e = by_walk walked refl (ap answer_of (sym whole) ∙ e)
  where
    whole : judged room completed walked ≡ fits walked
    whole = has_room room completed walked height count e

    by_walk : (w : Walked ℕ) → walked ≡ w → answer_of (fits w) ≡ Done height count → Fitted room completed walked height count
    by_walk (done slots n) is q =
        let tall : height ≡ length slots = cc in
        let total : n ≡ count = cc in
        record {
          slots = slots;
          succeeds = is ∙ ap (done slots) total;
          tall = tall;
          shows = ap (λ (x : Roomed ℕ). take height (cells_of room x)) (whole ∙ ap fits is)
              ∙ take_at slots (replicate (room - length slots) 0) height (sym tall);
        }
    by_walk (failed n index reason) is q = let z : ◌≡◌ {A = ℕ} 0 1 = cc in absurd (omega arith)
