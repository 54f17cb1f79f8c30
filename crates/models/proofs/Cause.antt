-- A cause in document 01's model is the full model's. Rests on the two walks, and on when the kind is 2.
-- Assumes nothing.
use Prim.Native.Nat.{ℕ}
use mathlib.Core.Path.{◌≡◌}
use mathlib.Core.List.{List}
use Rattle.casefile.specs.Parts.{Parts}
use Rattle.effects.specs.declared.Model.TheVariants.{Full}
use Rattle.walk.specs.Room.{Roomed, lacks, fits, block_walk_in}
use Rattle.walk.specs.Walk.{done}
use Rattle.answer.specs.Answer.{roomless, said}
use Rattle.report.specs.Report.{said_in}
use Rattle.evidence.specs.Kind.{CausedIn}
use Rattle.evidence.proofs.Kind.{kind_two_in}
use Rattle.words.specs.declared.Wording.{Wording}
use Rattle.models.specs.Models.{old, full, SameWalk, SameCause, SameCauseHere}
use Rattle.models.proofs.Walk.{walks_alike}

module _ (w : Wording) (p : Parts) (room : ℕ) (message : List ℕ) (scan block : ℕ)
    (c : CausedIn (old w) p room message scan block) where
  walks : SameWalk p.code p.members p.member_count c.leader p.fault room c.slots block
  walks = walks_alike p.code p.members p.member_count c.leader p.fault room c.slots block c.walks

  module _ (room' : ℕ) where
    abbrev walked : Roomed ℕ
    walked = block_walk_in Full p.code p.members p.member_count c.leader p.fault room'

    -- all but the walk is the same in every manner
    full_cause : walked ≡ fits (done c.slots block) → CausedIn (full w) p room' message scan block
    full_cause e =
        record {
          action = c.action;
          depth = c.depth;
          leader = c.leader;
          slots = c.slots;
          load = c.load;
          local = c.local;
          decodes = c.decodes;
          leads = c.leads;
          walks = e;
          high = c.high;
          slot = c.slot;
          words = c.words;
        }

    full_said : walked ≡ fits (done c.slots block) → said_in (full w) p room' ≡ said message 2 scan block
    full_said e = (kind_two_in (full w)).always p room' message scan block (full_cause e)

    full_roomless : (index : ℕ) → walked ≡ lacks index → said_in (full w) p room' ≡ roomless index
    unfolding said_in
    full_roomless index e = rw (c.decodes, c.leads, e)

pub same_cause : SameCause
same_cause w p room room' message scan block told roomy =
    let c = (kind_two_in (old w)).only p room message scan block told in
    full_said w p room message scan block c room'
    ((walks w p room message scan block c).there room'
    (λ index e. roomy index (full_roomless w p room message scan block c room' index e)))

pub same_cause_here : SameCauseHere
same_cause_here w p room message scan block told =
    let c = (kind_two_in (old w)).only p room message scan block told in
    full_said w p room message scan block c room (walks w p room message scan block c).here
