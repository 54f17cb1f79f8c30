-- Worked walks in both models: the cells that the rule gives for short codes, and where walks fail. Proved in proofs/Worked.antt.
-- Assumes nothing.
use Rattle.std.specs.Prelude.{ℕ, ◌≡◌, List, [], ◌∷◌, length}
use Rattle.cell.specs.Cell.{cell_of}
use Rattle.effects.specs.Lookup.{Lookup, missing}
use Rattle.effects.specs.Rows.{rows_of}
use Rattle.effects.specs.declared.Model.{Model}
use Rattle.effects.specs.declared.Model.TheVariants.{Document, Full}
use Rattle.walk.specs.Walk.{Reason, not_modelled, cut, too_few, overshot, cells, done, failed, walk}

-- no member is known
abbrev pub nothing : Lookup
nothing kind index = missing

-- the walk from 0 to the code's end: the slots that it leaves, bottom first, and the instructions that it completes
abbrev pub Leaves : Model → List ℕ → List ℕ → ℕ → Type 0
Leaves model code slots count = walk cells (rows_of model) nothing code (length code) 0 ≡ done slots count

-- the walk from 0 to a fault fails: after so many instructions, at an index, for a reason
abbrev pub Fails : Model → List ℕ → ℕ → ℕ → ℕ → Reason → Type 0
Fails model code fault count index reason = walk cells (rows_of model) nothing code fault 0 ≡ failed count index reason

pub record Worked : Type 0 where
  -- aload_0, aload_3, aload 5: a load has its own index and local, wherever it stands in the list
  pub loads : Leaves Document (0x2a ∷ 0x2d ∷ 0x19 ∷ 0x05 ∷ []) (cell_of 0 0 ∷ cell_of 1 3 ∷ cell_of 2 5 ∷ []) 3
  -- aload_0, aconst_null, lconst_0: any other push is opaque
  pub others : Leaves Document (0x2a ∷ 0x01 ∷ 0x09 ∷ []) (cell_of 0 0 ∷ 0 ∷ 0 ∷ 0 ∷ []) 3
  -- aload_0, instanceof: so is a result in the place of a load
  pub results : Leaves Document (0x2a ∷ 0xc1 ∷ 0x00 ∷ 0x01 ∷ []) (0 ∷ []) 2
  -- aload_0, aload_1, swap, dup: slots are carried along
  pub carries : Leaves Document (0x2a ∷ 0x2b ∷ 0x5f ∷ 0x59 ∷ []) (cell_of 1 1 ∷ cell_of 0 0 ∷ cell_of 0 0 ∷ []) 4
  -- aload_0, iadd, arraylength: what is not modelled is not completed
  pub unmodelled : Fails Document (0x2a ∷ 0x60 ∷ 0xbe ∷ []) 2 1 1 not_modelled
  -- aload_0, sipush, whose operands hold the fault: it is completed and passes it
  pub passing : Fails Document (0x2a ∷ 0x11 ∷ 0xbe ∷ 0x00 ∷ 0xb1 ∷ []) 2 2 1 overshot
  -- ---- the full model
  -- aload_0, lconst_1, iconst_1, lshl, pop2: a shift of a long takes three slots and gives two, so the load is on top again
  pub shifts : Leaves Full (0x2a ∷ 0x0a ∷ 0x04 ∷ 0x79 ∷ 0x58 ∷ []) (cell_of 0 0 ∷ []) 5
  -- aload_0, i2l, l2i: results are opaque, also in the place of a load
  pub turns : Leaves Full (0x2a ∷ 0x85 ∷ 0x88 ∷ []) (0 ∷ []) 3
  -- aload_0, aload_1, iconst_0, aload_2, aastore: a store to an array takes what it stores, the index and the array
  pub stores_in : Leaves Full (0x2a ∷ 0x2b ∷ 0x03 ∷ 0x2c ∷ 0x53 ∷ []) (cell_of 0 0 ∷ []) 5
  -- aload_0, aload_1, dup_x1
  pub dup_x1 : Leaves Full (0x2a ∷ 0x2b ∷ 0x5a ∷ []) (cell_of 1 1 ∷ cell_of 0 0 ∷ cell_of 1 1 ∷ []) 3
  -- aload_0, aload_1, aload_2, dup_x2
  pub dup_x2 :
      Leaves Full (0x2a ∷ 0x2b ∷ 0x2c ∷ 0x5b ∷ []) (cell_of 2 2 ∷ cell_of 0 0 ∷ cell_of 1 1 ∷ cell_of 2 2 ∷ []) 4
  -- aload_0, aload_1, aload_2, dup2_x1
  pub dup2_x1 :
      Leaves Full (0x2a ∷ 0x2b ∷ 0x2c ∷ 0x5d ∷ [])
      (cell_of 1 1 ∷ cell_of 2 2 ∷ cell_of 0 0 ∷ cell_of 1 1 ∷ cell_of 2 2 ∷ []) 4
  -- aload_0, aload_1, aload_2, aload_3, dup2_x2
  pub dup2_x2 :
      Leaves Full (0x2a ∷ 0x2b ∷ 0x2c ∷ 0x2d ∷ 0x5e ∷ [])
      (cell_of 2 2 ∷ cell_of 3 3 ∷ cell_of 0 0 ∷ cell_of 1 1 ∷ cell_of 2 2 ∷ cell_of 3 3 ∷ []) 5
  -- aload_0, iconst_1, iconst_1, multianewarray of two dimensions
  pub makes_arrays : Leaves Full (0x2a ∷ 0x04 ∷ 0x04 ∷ 0xc5 ∷ 0x00 ∷ 0x01 ∷ 0x02 ∷ []) (cell_of 0 0 ∷ 0 ∷ []) 4
  -- of none, and with its dimensions cut off
  pub no_dimension : Fails Full (0x04 ∷ 0xc5 ∷ 0x00 ∷ 0x01 ∷ 0x00 ∷ 0xbe ∷ []) 5 1 1 not_modelled
  pub cut_dimension : Fails Full (0x04 ∷ 0xc5 ∷ 0x00 ∷ 0x01 ∷ []) 5 1 1 cut
  -- iconst_1, iadd: taking more slots than there are
  pub too_few_slots : Fails Full (0x04 ∷ 0x60 ∷ 0xbe ∷ []) 2 1 1 too_few
  -- nop, wide aload 300: the load is of the two bytes behind the opcode, at the index of `wide`; and so for local 65,535
  pub far_loads : Leaves Full (0x00 ∷ 0xc4 ∷ 0x19 ∷ 0x01 ∷ 0x2c ∷ []) (65837 ∷ []) 2
  pub farthest : Leaves Full (0xc4 ∷ 0x19 ∷ 0xff ∷ 0xff ∷ []) (65536 ∷ []) 1
  -- wide lload 300, wide iload 300: opaque
  pub far_others : Leaves Full (0xc4 ∷ 0x16 ∷ 0x01 ∷ 0x2c ∷ 0xc4 ∷ 0x15 ∷ 0x01 ∷ 0x2c ∷ []) (0 ∷ 0 ∷ 0 ∷ []) 2
  -- aload_0, lconst_1, wide lstore 300; aload_0, wide iinc 300 by 5
  pub far_stores : Leaves Full (0x2a ∷ 0x0a ∷ 0xc4 ∷ 0x37 ∷ 0x01 ∷ 0x2c ∷ []) (cell_of 0 0 ∷ []) 3
  pub far_increments : Leaves Full (0x2a ∷ 0xc4 ∷ 0x84 ∷ 0x01 ∷ 0x2c ∷ 0x00 ∷ 0x05 ∷ []) (cell_of 0 0 ∷ []) 2
  -- wide ret, a `wide` that nothing follows, wide aload with its local cut off
  pub far_returns : Fails Full (0xc4 ∷ 0xa9 ∷ 0x00 ∷ 0x01 ∷ 0xbe ∷ []) 4 0 0 not_modelled
  pub far_nothing : Fails Full (0xc4 ∷ []) 1 0 0 not_modelled
  pub far_cut : Fails Full (0xc4 ∷ 0x19 ∷ 0x01 ∷ []) 4 0 0 cut
  -- wide iload reads nothing behind it, as iload does, and is completed
  pub far_unread : walk cells (rows_of Full) nothing (0xc4 ∷ 0x15 ∷ []) 4 0 ≡ done (0 ∷ []) 1
  -- document 01's model has no `wide`
  pub far_unmodelled : Fails Document (0xc4 ∷ 0x19 ∷ 0x01 ∷ 0x2c ∷ 0xbe ∷ []) 4 0 0 not_modelled
  -- invokedynamic
  pub dynamic : Fails Full (0xba ∷ 0x00 ∷ 0x01 ∷ 0x00 ∷ 0x00 ∷ 0xbe ∷ []) 5 0 0 not_modelled
