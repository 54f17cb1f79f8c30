-- Where document 01's model does not give up, the full one says the same; and where the one lacks room, so does the other.
-- Rests on the two walks.
-- Assumes nothing.
use Rattle.std.specs.Prelude.{Result, Ok, Err, Option, Some, None}
use Prim.Native.Nat.{ℕ}
use native.Mathlib.Omega.{arith}
use mathlib.Core.Path.{◌≡◌, refl, ap}
use Rattle.casefile.specs.Parts.{Parts}
use Rattle.effects.specs.declared.Model.{Model}
use Rattle.effects.specs.declared.Model.TheVariants.{Document, Full}
use Rattle.walk.specs.Room.{Roomed, lacks, fits, block_walk_in}
use Rattle.walk.specs.Walk.{done, failed}
use Rattle.fault.specs.Decoding.{decoded, faulted}
use Rattle.fault.specs.declared.Action.{Action}
use Rattle.fault.specs.declared.Fault.{Fault}
use Rattle.answer.specs.Answer.{Said, silent, roomless}
use Rattle.report.specs.Report.{scan_of, traced_from, said_by, said_at, said_in}
use Rattle.trace.specs.Trace.{trace_of}
use Rattle.words.specs.declared.Wording.{Wording}
use Rattle.models.specs.Models.{old, full, SameElsewhere, SameLack}
use Rattle.models.proofs.Walk.{full_is, full_lacks}
use Rattle.leader.specs.declared.Scanned.{Scanned}
use Rattle.leader.specs.Scan.{led_to}

abbrev pub fault : Parts → Option Fault
fault p = decoded p.code p.members p.member_count p.fault

-- what is said of a fault by a walk
abbrev told : Wording → Parts → Action → ℕ → ℕ → Roomed ℕ → Said
told w p action depth scan walked = said_by w p action (trace_of scan depth walked)

abbrev walk_in : Model → Parts → ℕ → ℕ → Roomed ℕ
walk_in model p leader room = block_walk_in model p.code p.members p.member_count leader p.fault room

-- all but the walk is the same, so what holds of it in both models holds of what is said
module _ (w : Wording) (p : Parts) (room : ℕ) (Holds : Said → Said → Type 0) (same : (what : Said) → Holds what what)
    (walks :
    (action : Action) (depth leader scan : ℕ) → fault p ≡ faulted action depth → scan_of p ≡ led_to leader scan →
    Holds (told w p action depth scan (walk_in Document p leader room)) (told w p action depth scan (walk_in Full p leader room))) where
  by_scan :
      (action : Action) (depth : ℕ) → fault p ≡ faulted action depth → (scan : Result Scanned Scanned) → scan_of p ≡ scan →
      Holds (said_by w p action (traced_from Document scan p depth room)) (said_by w p action (traced_from Full scan p depth room))
  by_scan action depth decodes (Ok s) leads = walks action depth s.at s.count decodes leads
  by_scan action depth decodes (Err s) leads = same (said_by w p action (traced_from Full (Err s) p depth room))

  by_fault : (f : Option Fault) → fault p ≡ f → Holds (said_at (old w) p room f) (said_at (full w) p room f)
  by_fault None decodes = same silent
  by_fault (Some f) decodes = by_scan f.action f.depth decodes (scan_of p) refl

  in_both : Holds (said_in (old w) p room) (said_in (full w) p room)
  unfolding said_in
  in_both = by_fault (fault p) refl

pub same_elsewhere : SameElsewhere
same_elsewhere w p elsewhere room =
    in_both w p room (λ one other. other ≡ one) (λ what. refl)
    (λ action depth leader scan decodes leads.
    ap (told w p action depth scan)
    (full_is p.code p.members p.member_count leader p.fault
    (λ count index e.
    elsewhere
    (record {
      action = action;
      depth = depth;
      leader = leader;
      scan = scan;
      count = count;
      index = index;
      decodes = decodes;
      leads = leads;
      walks = e;
    }))
    room))

-- room is lacked by the walk alone
lacking :
    (w : Wording) (p : Parts) (action : Action) (depth scan : ℕ) (walked : Roomed ℕ) (index : ℕ) →
    told w p action depth scan walked ≡ roomless index → walked ≡ lacks index
lacking w p action depth scan (lacks at) index e = let same : at ≡ index = cc in ap lacks same
lacking w p action depth scan (fits (done slots count)) index e = let z : ◌≡◌ {A = ℕ} 0 1 = cc in absurd (omega arith)
lacking w p action depth scan (fits (failed count at reason)) index e = let z : ◌≡◌ {A = ℕ} 0 1 = cc in absurd (omega arith)

pub same_lack : SameLack
same_lack w p room index =
    in_both w p room (λ one other. one ≡ roomless index → other ≡ roomless index) (λ what e. e)
    (λ action depth leader scan decodes leads e.
    ap (told w p action depth scan)
    (full_lacks p.code p.members p.member_count leader p.fault room index
    (lacking w p action depth scan (walk_in Document p leader room) index e)))
