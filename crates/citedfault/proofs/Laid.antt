-- The fault by a member that is laid out in a room which holds it.
-- Assumes nothing.
use Rattle.std.specs.Prelude.{Option}
use Prim.Native.Nat.{ℕ, ◌≤◌}
use native.Mathlib.Omega.{arith}
use mathlib.Core.Path.{◌≡◌, ◌∙◌, sym, ap, ap₂}
use mathlib.Core.List.{List}
use lib.Dec.{ltb}
use lib.ListN.{length, take, drop}
use Rattle.basics.specs.Choice.{pick}
use Rattle.text.specs.Writing.{most, Written}
use Rattle.items.specs.Text.{part_at}
use Rattle.cases.specs.LaidOut.{members_bytes}
use Rattle.entries.specs.Entries.{entry_by}
use Rattle.fault.specs.Decoding.{decoded}
use Rattle.fault.specs.declared.Fault.{Fault}
use Rattle.classparts.specs.Parts.{member_by}
use Rattle.citing.proofs.Room.{stands, ends, first_part}
use Rattle.citing.proofs.Runs.{counted}
use Rattle.citedfault.specs.Cited.{decoded_by}

-- the run is the part that it ends, and it has as many members as it tells
pub by_room :
    (file table : List ℕ) (index size : ℕ) (room after part : List ℕ) (count : ℕ) (code : List ℕ) (fault : ℕ) (r : Option Fault) →
    length room ≤ most → length (members_bytes (member_by file (entry_by file table) index)) ≤ length room →
    Written 0 (members_bytes (member_by file (entry_by file table) index)) room size after → part ≡ part_at after 0 size →
    count ≡ pick (ltb 0 size) 1 0 → r ≡ decoded code part count fault →
    r ≡ decoded_by (member_by file (entry_by file table) index) code fault
by_room file table index size room after part count code fault r short fits is part-is count_is r-is =
    let run = members_bytes (member_by file (entry_by file table) index) in
    let long : size ≡ length run = ends is (omega (arith, fits, short)) in
    let whole : part ≡ run =
    part-is ∙ ap₂ (λ (l : List ℕ) (n : ℕ). take n (drop 0 l)) (stands is fits) long ∙ first_part run (drop (length run) room) in
    let so : count ≡ length (member_by file (entry_by file table) index) =
    count_is ∙ ap (λ (n : ℕ). pick (ltb 0 n) 1 0) long ∙ sym (counted file table index) in
    r-is ∙ ap₂ (λ (l : List ℕ) (n : ℕ). decoded code l n fault) whole so
