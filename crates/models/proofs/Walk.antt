-- The walk in document 01's model beside the full model's. Rests on the walk by a table that extends another.
-- Assumes nothing.
use Prim.Native.Nat.{ℕ}
use native.Mathlib.Omega.{arith}
use mathlib.Core.Path.{◌≡◌, refl, ◌∙◌, sym, ap}
use mathlib.Core.Bool.{Bool, true, false}
use mathlib.Core.List.{List, [], ◌∷◌, ◌++◌}
use mathlib.Core.Logic.{◌⊎◌, inl, inr}
use lib.Dec.{leb}
use Rattle.basics.specs.Choice.{pick}
use Rattle.effects.specs.Lookup.{Lookup, lookup_in}
use Rattle.effects.specs.Rows.{row_of, full_row_of}
use Rattle.effects.proofs.Rows.{models_added}
use Rattle.effects.specs.declared.Model.TheVariants.{Full}
use Rattle.walk.specs.Room.{Completed, lacks, fits, judged, completed, block_walk, block_walk_in}
use Rattle.walk.specs.Walk.{not_modelled, cells, Walked, done, failed, walk}
use Rattle.walks.proofs.Extends.{walk_extends, walk_reaches}
use Rattle.models.specs.Models.{SameWalk, WalksAlike}

-- ---- the room of a walk

-- the walk, or the first instruction that lacks room
judged_either :
    {A : Type 0} (room : ℕ) (cs : List Completed) (walked : Walked A) →
    (judged room cs walked ≡ fits walked) ⊎ ((index : ℕ) × (judged room cs walked ≡ lacks index))
judged_either room [] walked = inl refl
judged_either {A} room (c ∷ cs) walked = by_height (leb c.height room) (judged_either room cs walked)
  where
    by_height :
        (b : Bool) → (judged room cs walked ≡ fits walked) ⊎ ((index : ℕ) × (judged room cs walked ≡ lacks index)) →
        (pick b (judged room cs walked) (lacks c.index) ≡ fits walked)
        ⊎ ((index : ℕ) × (pick b (judged room cs walked) (lacks c.index) ≡ lacks index))
    by_height true rest = rest
    by_height false rest = inr (c.index, refl)

judged_is : {A : Type 0} (room : ℕ) (cs : List Completed) (walked end : Walked A) → judged room cs walked ≡ fits end → walked ≡ end
judged_is {A} room cs walked end e = by_room (judged_either room cs walked)
  where
    by_room : (judged room cs walked ≡ fits walked) ⊎ ((index : ℕ) × (judged room cs walked ≡ lacks index)) → walked ≡ end
    by_room (inl q) = let same : fits walked ≡ fits end = sym q ∙ e in cc
    by_room (inr q) =
        let lacking : lacks q.0 ≡ fits end = sym q.1 ∙ e in
        let z : ◌≡◌ {A = ℕ} 0 1 = cc in
        absurd (omega arith)

-- what lacks room lacks it where more is completed, however that ends
judged_lacks :
    {A : Type 0} (room : ℕ) (cs rest : List Completed) (walked end : Walked A) (index : ℕ) → judged room cs walked ≡ lacks index →
    judged room (cs ++ rest) end ≡ lacks index
judged_lacks room [] rest walked end index e = let z : ◌≡◌ {A = ℕ} 0 1 = cc in absurd (omega arith)
judged_lacks room (c ∷ cs) rest walked end index e = by_height (leb c.height room) (judged_lacks room cs rest walked end index) e
  where
    by_height :
        (b : Bool) → (judged room cs walked ≡ lacks index → judged room (cs ++ rest) end ≡ lacks index) →
        pick b (judged room cs walked) (lacks c.index) ≡ lacks index →
        pick b (judged room (cs ++ rest) end) (lacks c.index) ≡ lacks index
    by_height true behind q = behind q
    by_height false behind q = q

-- ---- the two walks

module _ (code members : List ℕ) (count leader fault : ℕ) where
  abbrev lookup : Lookup
  lookup = lookup_in members count

  -- document 01's walk, and what it completes
  abbrev walked : Walked ℕ
  walked = walk cells row_of lookup code fault leader

  abbrev heights : List Completed
  heights = completed cells row_of lookup code fault leader

  pub full_is :
      ((n index : ℕ) → walked ≡ failed n index not_modelled → ⊥) → (room : ℕ) →
      block_walk_in Full code members count leader fault room ≡ block_walk code members count leader fault room
  unfolding block_walk_in
  full_is modelled room =
      let same = walk_extends ℕ cells row_of full_row_of models_added.extends lookup code fault leader modelled in
      rw (same.0, same.1)

  pub full_lacks :
      (room index : ℕ) → block_walk code members count leader fault room ≡ lacks index →
      block_walk_in Full code members count leader fault room ≡ lacks index
  unfolding block_walk_in
  full_lacks room index e =
      let more = walk_reaches ℕ cells row_of full_row_of models_added.extends lookup code fault leader in
      rw more.1 (judged_lacks room heights more.0 walked (walk cells full_row_of lookup code fault leader) index e)

  -- ---- a walk that succeeds

  module _ (room : ℕ) (slots : List ℕ) (block : ℕ)
      (walks : block_walk code members count leader fault room ≡ fits (done slots block)) where
    succeeds : walked ≡ done slots block
    unfolding block_walk_in
    succeeds = judged_is room heights walked (done slots block) walks

    full_succeeds :
        (room' : ℕ) → block_walk_in Full code members count leader fault room' ≡ block_walk code members count leader fault room'
    full_succeeds =
        full_is
        (λ n index e.
        let ends : done slots block ≡ failed n index not_modelled = sym succeeds ∙ e in
        let z : ◌≡◌ {A = ℕ} 0 1 = cc in
        omega arith)

    fits_there :
        (room' : ℕ) → ((index : ℕ) → block_walk_in Full code members count leader fault room' ≡ lacks index → ⊥) →
        block_walk_in Full code members count leader fault room' ≡ fits (done slots block)
    unfolding block_walk_in
    fits_there room' roomy = by_room (judged_either room' heights walked)
      where
        by_room :
            (judged room' heights walked ≡ fits walked) ⊎ ((index : ℕ) × (judged room' heights walked ≡ lacks index)) →
            block_walk_in Full code members count leader fault room' ≡ fits (done slots block)
        by_room (inl e) = full_succeeds room' ∙ e ∙ ap fits succeeds
        by_room (inr e) = absurd (roomy e.0 (full_succeeds room' ∙ e.1))

    same_walk : SameWalk code members count leader fault room slots block
    same_walk = record { here = full_succeeds room ∙ walks; there = fits_there }

pub walks_alike : WalksAlike
walks_alike = same_walk
