-- The cause of a fault, traced over the block that it lies in (document 01, "Action and cause" and "Numbers returned").
-- Assumes nothing.
use Rattle.std.specs.Prelude.{ℕ, ◌-◌, List, [], ltb, length, get_or, Option, None, Result, Ok, Err}
use Rattle.basics.specs.Choice.{pick}
use Rattle.bytecode.specs.Length.{length_of}
use Rattle.leader.specs.Scan.{block_leader}
use Rattle.leader.specs.declared.Scanned.{Scanned}
use Rattle.cell.specs.Cell.{unpacked}
use Rattle.cell.specs.declared.Load.{Load}
use Rattle.effects.specs.declared.Model.{Model}
use Rattle.walk.specs.Room.{Roomed, lacks, fits, block_walk_in}
use Rattle.walk.specs.Walk.{done, failed}
use Rattle.trace.specs.declared.Traced.{Traced}

-- the slot so far from the top, where the height exceeds the depth
unfoldable pub slot_from : List ℕ → ℕ → Option Load
slot_from slots depth = pick (ltb depth (length slots)) (unpacked (get_or slots (length slots - 1 - depth) 0)) None

-- a trace that comes to its end: the scan count, the block count, and the cause
abbrev pub traced_with : ℕ → ℕ → Option Load → Result Traced ℕ
traced_with scan block cause = Ok (record { scan = scan; block = block; cause = cause })

-- "A cause is given exactly when the walk succeeds, its height exceeds the depth, and the slot at that depth from the top is a
-- load". "Block count: instructions the walk completed".
abbrev pub trace_of : ℕ → ℕ → Roomed ℕ → Result Traced ℕ
trace_of scan depth (lacks index) = Err index
trace_of scan depth (fits (failed block index reason)) = traced_with scan block None
trace_of scan depth (fits (done slots block)) = traced_with scan block (slot_from slots depth)

-- "0 where there is no leader"
abbrev pub traced_by : Model → List ℕ → List ℕ → ℕ → ℕ → ℕ → ℕ → Result Scanned Scanned → Result Traced ℕ
traced_by model code members count fault depth room (Ok s) =
    trace_of s.count depth (block_walk_in model code members count s.at fault room)
traced_by model code members count fault depth room (Err s) = traced_with s.count 0 None

-- in a model: the code, so many members, the fault, the depth of its reference, and the cells that are lent
unfoldable pub traced : Model → List ℕ → List ℕ → ℕ → ℕ → ℕ → ℕ → Result Traced ℕ
traced model code members count fault depth room =
    traced_by model code members count fault depth room (block_leader length_of [] code fault)
