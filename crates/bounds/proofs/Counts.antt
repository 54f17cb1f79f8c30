-- A code of n bytes has at most n instructions, and a walk to a fault completes at most as many as the fault's index. So the counts
-- of a case are small.
-- Assumes nothing.
use Rattle.std.specs.Prelude.{Option, None, Some, Result, Ok, Err}
use Prim.Native.Nat.{ℕ, zero, suc, ◌+◌, ◌-◌, ◌≤◌}
use native.Mathlib.Omega.{arith}
use mathlib.Core.Path.{◌≡◌, refl}
use mathlib.Core.List.{List, [], ◌∷◌}
use lib.Dec.{eqb, leb, ltb, lit≤}
use lib.ListN.{length}
use Rattle.cell.specs.declared.Load.{Load}
use Rattle.basics.proofs.Choice.{chosen}
use Rattle.bytecode.specs.Length.{length_of}
use Rattle.bytecode.specs.declared.Unmeasured.{Unmeasured}
use Rattle.greatest.specs.Greatest.{greatest as greatest_of}
use Rattle.leader.specs.Scan.{Instructions, ended as scan_ended, unmeasured, instruction, scan_from, instructions, scan_count, leaders_of, answered, block_leader}
use Rattle.leader.proofs.Scanning.{Turn, at_end, without, with_length, turn}
use Rattle.leader.specs.declared.Scanned.{Scanned}
use Rattle.number.specs.Number.{greatest}
use Rattle.casefile.specs.Parts.{Parts, parts_of}
use Rattle.casefile.specs.Whole.{case_of}
use Rattle.casefile.specs.declared.Places.{Places}
use Rattle.casefile.specs.declared.CaseError.{CaseError}
use Rattle.casefile.specs.declared.CaseError.TheVariants as cases
use Rattle.cases.specs.LaidOut.{LaidOut}
use Rattle.cases.proofs.Laying.{accepted_is_laid_out}
use Rattle.effects.specs.Lookup.{Lookup, lookup_in}
use Rattle.effects.specs.Rows.{Row, rows_of}
use Rattle.effects.specs.declared.Model.{Model}
use Rattle.walk.specs.Room.{Completed, Roomed, lacks, fits, judged, completed, block_walk_in}
use Rattle.walk.specs.Walk.{Marks, cells, Outcome, stops, goes, passes, Walked, done, failed, count_of as block_count, overshot, ended, after, step, walk_from, walk}
use Rattle.fault.specs.Decoding.{decoded}
use Rattle.fault.specs.declared.Fault.{Fault}
use Rattle.answer.specs.Answer.{kind_of, Said, silent, roomless, said, needed, answer_by}
use Rattle.report.specs.Report.{scan_of, traced_in, said_by, said_at, said_in, answer_of, report_in}
use Rattle.report.specs.declared.Manner.{Manner}
use Rattle.trace.specs.Trace.{trace_of, traced_by}
use Rattle.trace.specs.declared.Traced.{Traced}
use Rattle.answer.specs.declared.Report.TheVariants.{Message, NoOutput}
use Rattle.bounds.specs.Counts.{Small, CountsSmall}

-- ---- the scan

scan_within : (measure : List ℕ → ℕ → Result ℕ Unmeasured) (code : List ℕ) (k pc : ℕ) → scan_count (scan_from measure code k pc) ≤ k
unfolding scan_from scan_count
scan_within measure code zero pc = omega arith
scan_within measure code (suc k) pc = by_turn (turn measure code pc k) (λ at. scan_within measure code k at)
  where
    by_turn :
        {found : Instructions} → Turn measure code pc k found → ((at : ℕ) → scan_count (scan_from measure code k at) ≤ k) →
        scan_count found ≤ suc k
    by_turn (at_end here) rest = omega arith
    by_turn (without inside none) rest = omega arith
    by_turn (with_length {n = n} inside measured) rest = omega (arith, rest (pc + n))

abbrev count_of : Result Scanned Scanned → ℕ
count_of (Ok s) = s.count
count_of (Err s) = s.count

count_kept : (i : Instructions) (leader count : ℕ) → count_of (answered i leader count) ≡ count
unfolding answered
count_kept scan_ended leader count = refl
count_kept (unmeasured pc) leader count = refl
count_kept (instruction pc n rest) leader count = count_kept rest leader count

scanned : (code : List ℕ) (fault : ℕ) → count_of (block_leader length_of [] code fault) ≤ length code
unfolding block_leader instructions
scanned code fault =
    let found = instructions length_of code in
    omega (
      arith,
      count_kept found (greatest_of fault (leaders_of code found)) (scan_count found),
      scan_within length_of code (length code) 0,
    )

-- ---- the walk

module _ {A : Type 0} (marks : Marks A) (rows : ℕ → Row) (lookup : Lookup) (code : List ℕ) (fault : ℕ) where
  end_within : (pc : ℕ) (slots : List A) (count more : ℕ) → block_count (ended marks rows lookup code fault pc slots count) ≤ count + more
  end_within pc slots count more =
      chosen (λ (w : Walked A). block_count w ≤ count + more) (eqb pc fault) (done slots count) (failed count pc overshot)
      (omega arith) (omega arith)

  after_within :
      (o : Outcome A) (pc count turns : ℕ) (following : ℕ → List A → Walked A) →
      ((next : ℕ) (slots : List A) → block_count (following next slots) ≤ count + 1 + turns) →
      block_count (after marks rows lookup code fault o pc count following) ≤ count + suc turns
  after_within (stops reason) pc count turns following rest = omega arith
  after_within (goes next slots) pc count turns following rest = omega (arith, rest next slots)
  after_within (passes slots) pc count turns following rest = omega arith

  walk_within :
      (turns pc : ℕ) (slots : List A) (count : ℕ) →
      block_count (walk_from marks rows lookup code fault turns pc slots count) ≤ count + turns
  unfolding walk_from
  walk_within zero pc slots count = end_within pc slots count 0
  walk_within (suc turns) pc slots count =
      chosen (λ (w : Walked A). block_count w ≤ count + suc turns) (ltb pc fault) _ _
      (after_within (step marks rows lookup code fault pc slots) pc count turns
      (λ next list. walk_from marks rows lookup code fault turns next list (count + 1))
      (λ next list. walk_within turns next list (count + 1)))
      (end_within pc slots count (suc turns))

abbrev Within : {A : Type 0} → ℕ → Roomed A → Type 0
Within limit (lacks index) = Unit {0}
Within limit (fits walked) = block_count walked ≤ limit

judged_within :
    {A : Type 0} (limit room : ℕ) (cs : List Completed) (walked : Walked A) → block_count walked ≤ limit →
    Within limit (judged room cs walked)
judged_within limit room [] walked small = small
judged_within limit room (c ∷ cs) walked small =
    chosen (Within limit) (leb c.height room) (judged room cs walked) (lacks c.index)
    (judged_within limit room cs walked small) tt

walked_within :
    (model : Model) (code members : List ℕ) (count leader fault room : ℕ) →
    Within fault (block_walk_in model code members count leader fault room)
unfolding block_walk_in walk
walked_within model code members count leader fault room =
    let lookup = lookup_in members count in
    judged_within fault room (completed cells (rows_of model) lookup code fault leader) _
    (omega (arith, walk_within cells (rows_of model) lookup code fault (fault - leader) leader [] 0))

-- ---- the report

abbrev SmallTrace : Result Traced ℕ → Type 0
SmallTrace (Err index) = Unit {0}
SmallTrace (Ok t) = (t.scan ≤ greatest) × (t.block ≤ greatest)

abbrev SmallSaid : Said → Type 0
SmallSaid silent = Unit {0}
SmallSaid (roomless index) = Unit {0}
SmallSaid (said message kind scan block) = (kind ≤ 2) × (scan ≤ greatest) × (block ≤ greatest)

small_trace :
    (scan depth limit : ℕ) (r : Roomed ℕ) → scan ≤ greatest → limit ≤ greatest → Within limit r → SmallTrace (trace_of scan depth r)
small_trace scan depth limit (lacks index) few most within = tt
small_trace scan depth limit (fits (done slots block)) few most within = (few, omega arith)
small_trace scan depth limit (fits (failed block index reason)) few most within = (few, omega arith)

module _ (manner : Manner) (p : Parts) (laid : LaidOut p) (room : ℕ) where
  traced_small : (depth : ℕ) → SmallTrace (traced_in manner.model p depth room)
  traced_small depth = by_scan (scan_of p) (scanned p.code p.fault)
    where
      by_scan :
          (s : Result Scanned Scanned) → count_of s ≤ length p.code →
          SmallTrace (traced_by manner.model p.code p.members p.member_count p.fault depth room s)
      by_scan (Ok s) few =
          small_trace s.count depth p.fault
          (block_walk_in manner.model p.code p.members p.member_count s.at p.fault room)
          (omega (arith, laid.code)) laid.fault
          (walked_within manner.model p.code p.members p.member_count s.at p.fault room)
      by_scan (Err s) few = (omega (arith, laid.code), lit≤ tt)

  said_small : SmallSaid (said_in manner p room)
  unfolding said_in
  said_small = by_fault (decoded p.code p.members p.member_count p.fault)
    where
      kind_small : (cause : Option Load) → kind_of cause ≤ 2
      kind_small None = lit≤ tt
      kind_small (Some l) = lit≤ tt

      by_fault : (f : Option Fault) → SmallSaid (said_at manner p room f)
      by_fault None = tt
      by_fault (Some f) =
          by_trace (traced_in manner.model p f.depth room) (traced_small f.depth)
        where
          by_trace : (t : Result Traced ℕ) → SmallTrace t → SmallSaid (said_by manner.wording p f.action t)
          by_trace (Err index) small = tt
          by_trace (Ok t) small = (kind_small t.cause, small.0, small.1)

small_answer : (s : Said) (out_room : ℕ) → SmallSaid s → Small (answer_by s out_room)
small_answer silent out_room small = tt
small_answer (roomless index) out_room small = tt
small_answer (said message kind scan block) out_room small =
    chosen Small (leb (length message) out_room) (Message (length message) kind scan block) (NoOutput (needed message)) small tt

pub counts_small : CountsSmall
unfolding report_in
counts_small manner bytes are room out_room = by_case (case_of bytes) refl
  where
    by_case : (c : Result Places CaseError) → case_of bytes ≡ c → Small (answer_of manner bytes room out_room c)
    by_case (Ok places) e =
        small_answer (said_in manner (parts_of bytes places) room) out_room
        (said_small manner (parts_of bytes places) (accepted_is_laid_out bytes are places e).0 room)
    by_case (Err (cases.Wrong offset)) e = tt
    by_case (Err cases.TooLong) e = tt
