-- What the walk does at an instruction, as a row by its key: by document 01 ("The walk"), and by the full model of document 02,
-- requests 1 and 7. A key is an opcode, or behind `wide` 256 and the opcode there.
-- Assumes nothing.
use Rattle.std.specs.Prelude.{ℕ, ◌-◌, List, [], ◌∷◌, eqb, ltb}
use Rattle.basics.specs.Choice.{pick, one_of, between}
use Rattle.effects.specs.declared.Model.{Model}
use Rattle.effects.specs.declared.Model.TheVariants.{Document, Full}

pub data Row : Type 0 where
  -- "All else fails"
  unmodelled : Row
  -- takes so many slots and pushes so many opaque ones
  opaque : ℕ → ℕ → Row
  -- pushes the load of the local that the next byte names, that the two bytes behind a widened opcode name, or that the opcode names
  aload aload_far : Row
  aload_of : ℕ → Row
  -- takes so many slots and pushes copies of them, each by its number from the top, 1 the topmost
  carries : ℕ → List ℕ → Row
  -- "`checkcast` (list kept)"
  keeps : Row
  -- takes so many slots and pushes those of the field that it cites
  gets : ℕ → Row
  -- takes so many slots and the arguments of the method that it cites, and pushes those of its return
  calls : ℕ → Row
  -- takes so many slots and those of the field that it cites
  puts : ℕ → Row
  -- takes as many slots as its dimensions byte says, which must not be 0, and pushes an opaque one
  makes : Row

-- document 01's model
unfoldable pub row_of : ℕ → Row
row_of op =
    -- nop, iinc
    pick (one_of (0 ∷ 132 ∷ []) op) (opaque 0 0)
    -- constants and loads of long and double
    (pick (one_of (9 ∷ 10 ∷ 14 ∷ 15 ∷ 20 ∷ 22 ∷ 24 ∷ []) op) (opaque 0 2)
    (pick (between 30 33 op) (opaque 0 2)
    (pick (between 38 41 op) (opaque 0 2)
    (pick (eqb op 25) aload
    (pick (between 42 45 op) (aload_of (op - 42))
    -- the other constants and loads
    (pick (between 1 41 op) (opaque 0 1)
    -- array loads
    (pick (one_of (47 ∷ 49 ∷ []) op) (opaque 2 2)
    (pick (between 46 53 op) (opaque 2 1)
    -- stores to locals
    (pick (one_of (55 ∷ 57 ∷ []) op) (opaque 2 0)
    (pick (between 63 66 op) (opaque 2 0)
    (pick (between 71 74 op) (opaque 2 0)
    (pick (between 54 78 op) (opaque 1 0)
    -- pop, pop2, dup, dup2, swap
    (pick (eqb op 87) (opaque 1 0)
    (pick (eqb op 88) (opaque 2 0)
    (pick (eqb op 89) (carries 1 (1 ∷ 1 ∷ []))
    (pick (eqb op 92) (carries 2 (2 ∷ 1 ∷ 2 ∷ 1 ∷ []))
    (pick (eqb op 95) (carries 2 (1 ∷ 2 ∷ []))
    -- getstatic, getfield, the four invokes
    (pick (eqb op 178) (gets 0)
    (pick (eqb op 180) (gets 1)
    (pick (one_of (182 ∷ 183 ∷ 185 ∷ []) op) (calls 1)
    (pick (eqb op 184) (calls 0)
    -- new, newarray, anewarray, arraylength, checkcast, instanceof
    (pick (eqb op 187) (opaque 0 1)
    (pick (between 188 190 op) (opaque 1 1)
    (pick (eqb op 192) keeps
    (pick (eqb op 193) (opaque 1 1)
    unmodelled)))))))))))))))))))))))))

-- what the full model adds (document 02, request 1); `added` of Agreement.antt has its words
unfoldable pub added_row : ℕ → Row
added_row op =
    -- stores to arrays
    pick (one_of (80 ∷ 82 ∷ []) op) (opaque 4 0)
    (pick (between 79 86 op) (opaque 3 0)
    -- dup_x1, dup_x2, dup2_x1, dup2_x2
    (pick (eqb op 90) (carries 2 (1 ∷ 2 ∷ 1 ∷ []))
    (pick (eqb op 91) (carries 3 (1 ∷ 3 ∷ 2 ∷ 1 ∷ []))
    (pick (eqb op 93) (carries 3 (2 ∷ 1 ∷ 3 ∷ 2 ∷ 1 ∷ []))
    (pick (eqb op 94) (carries 4 (2 ∷ 1 ∷ 4 ∷ 3 ∷ 2 ∷ 1 ∷ []))
    -- arithmetic: the four negations, the three shifts of a long, the others of long and double, those of int and float
    (pick (one_of (116 ∷ 118 ∷ []) op) (opaque 1 1)
    (pick (one_of (117 ∷ 119 ∷ []) op) (opaque 2 2)
    (pick (one_of (121 ∷ 123 ∷ 125 ∷ []) op) (opaque 3 2)
    (pick (one_of (97 ∷ 99 ∷ 101 ∷ 103 ∷ 105 ∷ 107 ∷ 109 ∷ 111 ∷ 113 ∷ 115 ∷ 127 ∷ 129 ∷ 131 ∷ []) op) (opaque 4 2)
    (pick (between 96 131 op) (opaque 2 1)
    -- conversions: of one slot to two, of two to one, of two to two, of one to one
    (pick (one_of (133 ∷ 135 ∷ 140 ∷ 141 ∷ []) op) (opaque 1 2)
    (pick (one_of (136 ∷ 137 ∷ 142 ∷ 144 ∷ []) op) (opaque 2 1)
    (pick (one_of (138 ∷ 143 ∷ []) op) (opaque 2 2)
    (pick (between 133 147 op) (opaque 1 1)
    -- comparisons: of long and double, of float
    (pick (one_of (148 ∷ 151 ∷ 152 ∷ []) op) (opaque 4 1)
    (pick (between 149 150 op) (opaque 2 1)
    -- putstatic, putfield, monitorenter, monitorexit, multianewarray
    (pick (eqb op 179) (puts 0)
    (pick (eqb op 181) (puts 1)
    (pick (between 194 195 op) (opaque 1 0)
    (pick (eqb op 197) makes
    unmodelled))))))))))))))))))))

-- what the full model adds behind `wide` (document 02, request 7), by the opcode there and by the key; `widens` of Agreement.antt has its
-- words
unfoldable pub widened_row : ℕ → Row
widened_row op =
    -- wide lload, wide dload; wide aload; wide iload, wide fload
    pick (one_of (22 ∷ 24 ∷ []) op) (opaque 0 2)
    (pick (eqb op 25) aload_far
    (pick (between 21 25 op) (opaque 0 1)
    -- wide lstore, wide dstore; wide istore, wide fstore, wide astore
    (pick (one_of (55 ∷ 57 ∷ []) op) (opaque 2 0)
    (pick (between 54 58 op) (opaque 1 0)
    -- wide iinc
    (pick (eqb op 132) (opaque 0 0)
    unmodelled)))))

abbrev pub wide_row : ℕ → Row
wide_row key = pick (ltb key 256) unmodelled (widened_row (key - 256))

-- the first where it models, else the second
abbrev pub or_row : Row → Row → Row
or_row unmodelled other = other
or_row (opaque taken given) other = opaque taken given
or_row aload other = aload
or_row aload_far other = aload_far
or_row (aload_of local) other = aload_of local
or_row (carries taken places) other = carries taken places
or_row keeps other = keeps
or_row (gets taken) other = gets taken
or_row (calls taken) other = calls taken
or_row (puts taken) other = puts taken
or_row makes other = makes

-- the full model
unfoldable pub full_row_of : ℕ → Row
full_row_of key = or_row (row_of key) (or_row (added_row key) (wide_row key))

-- the rows of a model
abbrev pub rows_of : Model → ℕ → Row
rows_of Document key = row_of key
rows_of Full key = full_row_of key
