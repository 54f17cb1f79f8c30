-- The places of the constant pool's entries (JVMS 4.4), told by the format; what the reader's parts answer; and what the table of places is
-- for.
-- Assumes nothing.
use Rattle.std.specs.Prelude.{ℕ, zero, suc, ◌+◌, ◌-◌, ◌≤◌, Bool, true, false, List, [], ◌∷◌, ◌≡◌, eqb, leb, length, Result, Ok, Err}
use Rattle.basics.specs.Bytes.{byte_at}
use Rattle.basics.specs.Choice.{pick}
use Rattle.format.specs.Format.{Format, read_by, right}
use Rattle.format.specs.Items.{run_of}
use Rattle.classformat.specs.ClassFile.{u1, wide, right_tag, entry_format, pool_format}
use Rattle.classformat.specs.Contents.{Pool}
use Rattle.classformat.specs.declared.Entry.{Entry}
use Rattle.classformat.specs.declared.Entry.TheVariants.{Nothing}
use Rattle.entries.specs.Entries.{Serves}

-- ---- one entry

-- from its tag on, where so many pool numbers are left behind its own
unfoldable pub tagged_format : ℕ → ℕ → Format Entry
tagged_format limit left = u1 limit (right_tag left) (λ tag. entry_format limit tag)

-- how many bytes the first number has that stands behind a tag other than a Utf8's
unfoldable pub first_width : ℕ → ℕ
first_width tag = pick (leb tag 6) 4 (pick (eqb tag 15) 1 2)

-- and the second one, 0 where there is none
unfoldable pub second_width : ℕ → ℕ
second_width tag =
    pick (leb tag 4) 0 (pick (leb tag 6) 4 (pick (leb tag 8) 0 (pick (leb tag 15) 2 (pick (leb tag 16) 0 (pick (leb tag 18) 2 0)))))

-- two numbers, of which the first that is cut is wrong
unfoldable pub passed_by : ℕ → ℕ → ℕ → ℕ → Result ℕ ℕ
passed_by limit at first second =
    pick (leb (at + first) limit) (pick (leb (at + first + second) limit) (Ok (at + first + second)) (Err (at + first))) (Err at)

-- ---- the places

abbrev pub place_then : ℕ → Result ℕ ℕ → (ℕ → List ℕ) → List ℕ
place_then at (Ok next) following = at ∷ following next
place_then at (Err place) following = []

-- of so many pool numbers: the place of each entry up to the first wrong one, 0 for the number behind a long or a double
unfoldable pub places_by : List ℕ → ℕ → Bool → ℕ → List ℕ
places_by file zero behind_wide at = []
places_by file (suc left) true at = 0 ∷ places_by file left false at
places_by file (suc left) false at =
    place_then at (run_of (read_by (tagged_format (length file) left) file at)) (λ next. places_by file left (wide (byte_at file at)) next)

-- of a pool with so many numbers; number 0 has no entry
unfoldable pub places_in : List ℕ → ℕ → List ℕ
places_in file count = 0 ∷ places_by file (count - 1) false 10

-- a table of so many cells that holds places: those that it has room for, and 0 behind them
unfoldable pub placed : ℕ → List ℕ → List ℕ
placed zero places = []
placed (suc room) [] = 0 ∷ placed room []
placed (suc room) (place ∷ places) = place ∷ placed room places

-- ---- what the table is for

-- wherever the pool is right, a table with a cell for each of its numbers leads to each of its entries; proofs/Serving.antt has the proof
abbrev pub TableServes : Type 0
TableServes =
    (file : List ℕ) (count room : ℕ) (entries : Pool) (end : ℕ) → count ≤ room →
    read_by (pool_format (length file) (count - 1) false) file 10 ≡ right entries end →
    Serves file (placed room (places_in file count)) (Nothing ∷ entries)
