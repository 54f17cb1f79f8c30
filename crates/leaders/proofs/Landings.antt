-- What document 01 says that an instruction gives is what JVMS says: where it lands, and whether a block ends behind it.
-- Rests on the signed reading of `lengths`.
-- Assumes nothing.
use Prim.Native.Nat.{ℕ, zero, suc, ◌+◌, ◌-◌, ◌^◌, ◌<◌}
use native.Mathlib.Omega.{arith}
use mathlib.Core.Path.{◌≡◌, refl, ◌∙◌, sym, ap, ap₂}
use mathlib.Core.Bool.{Bool, true, false, cond}
use mathlib.Core.List.{List, [], ◌∷◌, ◌++◌, append-nil}
use lib.Dec.{T, eqb, ltb, eqb→eq}
use lib.IntN.{ℤ, pos, negsuc, sub_ℕ, ◌+ℤ◌, ◌-ℤ◌, +ℤ_assoc}
use mir.Val.{to_z}
use mir.Syntax.{w16}
use borrow.Author.Tests.{le-ltb}
use Rattle.basics.specs.Bytes.{byte_at, u16_at, AreBytes}
use Rattle.basics.specs.Choice.{pick, both, alike}
use Rattle.basics.proofs.Every.{every_at, both_first, both_second, alike_is}
use Rattle.jvms.specs.Format.{Operand, width, Format, fixed, tableswitch, lookupswitch, wide, reserved, format_of}
use Rattle.jvms.specs.Extent.{natural, default_at, signed32_at, span}
use Rattle.jvms.specs.Branch.{is_branch, offset_at, offsets_in, offsets_from, offsets_by, landing, landings, landings_at, branch_among, branches_by, ends_block}
use Rattle.bytecode.specs.Length.{operands_at, table_entries, lookup_pairs}
use Rattle.reads.specs.Signed.{i16_at, i32_at}
use Rattle.lengths.proofs.Agree.{padded, entries_agree, pairs_agree}
use Rattle.lengths.proofs.Signed.{signed_reading, unlifted}
use Rattle.branch.specs.Branch.{branch_of}
use Rattle.greatest.specs.Greatest.{target}
use Rattle.leader.specs.Targets.{entry_targets, switch_targets, targets_by, after_by, targets_at, leaders_at}
use Rattle.branch.specs.declared.Branch.{Branch}
use Rattle.branch.specs.declared.Branch.TheVariants.{Near, Far, Table, Lookup, Ends, Plain}
use Rattle.leaders.specs.Leader.{TargetsAgree}

-- ---- one offset

landing_of_sub : (t k : ℕ) → landing (sub_ℕ t k) ≡ target k t
unfolding target
landing_of_sub t k = by_order (ltb t k)
  where
    by_order : (o : Bool) → landing (cond o (negsuc (k - suc t)) (pos (t - k))) ≡ pick o [] ((t - k) ∷ [])
    by_order true = refl
    by_order false = refl

landing_of_difference : (t k : ℕ) → landing (pos t -ℤ pos k) ≡ target k t
unfolding target
landing_of_difference t zero = let same : t + 0 ≡ t - 0 = omega arith in rw (le-ltb t 0 (omega arith), same)
landing_of_difference t (suc k) = landing_of_sub t (suc k)

-- an offset that is v when lifted by half leads where document 01 says
leads : (pc half v : ℕ) (offset : ℤ) → offset +ℤ pos half ≡ pos v → landing (pos pc +ℤ offset) ≡ target half (pc + v)
leads pc half v offset e =
    ap landing
    (unlifted (pos pc +ℤ offset) half (pc + v)
    (+ℤ_assoc (pos pc) offset (pos half) ∙ ap (λ (z : ℤ). pos pc +ℤ z) e))
    ∙ landing_of_difference (pc + v) half

-- ---- all offsets of an instruction

module _ (code : List ℕ) (are : AreBytes code) (pc : ℕ) where
  leads16 : (at : ℕ) → landing (pos pc +ℤ to_z w16 (u16_at code at)) ≡ target (2 ^ 15) (pc + i16_at code at)
  leads16 at = leads pc (2 ^ 15) (i16_at code at) (to_z w16 (u16_at code at)) (signed_reading.of16 code are at)

  leads32 : (at : ℕ) → landing (pos pc +ℤ signed32_at code at) ≡ target (2 ^ 31) (pc + i32_at code at)
  leads32 at = leads pc (2 ^ 31) (i32_at code at) (signed32_at code at) (signed_reading.of32 code are at)

  entries_lead : (step n at : ℕ) → landings pc (offsets_from step n code at) ≡ entry_targets code pc step n at
  unfolding entry_targets
  entries_lead step zero at = refl
  entries_lead step (suc n) at = ap₂ ◌++◌ (leads32 at) (entries_lead step n (at + step))

  switch_leads :
      (step n : ℕ) →
      landings pc (signed32_at code (default_at pc) ∷ offsets_from step n code (default_at pc + 12)) ≡ switch_targets code pc step n
  unfolding switch_targets
  switch_leads step n = rw (padded pc) (ap₂ ◌++◌ (leads32 (operands_at pc)) (entries_lead step n (operands_at pc + 12)))

  table_leads : landings pc (offsets_by tableswitch code pc) ≡ switch_targets code pc 4 (table_entries code pc)
  table_leads = switch_leads 4 (natural (span code pc)) ∙ ap (switch_targets code pc 4) (entries_agree code are pc)

  lookup_leads : landings pc (offsets_by lookupswitch code pc) ≡ switch_targets code pc 8 (lookup_pairs code pc)
  lookup_leads =
      switch_leads 8 (natural (signed32_at code (default_at pc + 4))) ∙ ap (switch_targets code pc 8) (pairs_agree code are pc)

-- ---- an opcode's kind and its format

-- the operands are one branch offset of so many bytes
abbrev alone : ℕ → List Operand → Bool
alone bytes [] = false
alone bytes (o ∷ []) = both (is_branch o) (eqb (width o) bytes)
alone bytes (o ∷ p ∷ os) = false

abbrev one_branch : ℕ → Format → Bool
one_branch bytes (fixed os) = alone bytes os
one_branch bytes tableswitch = false
one_branch bytes lookupswitch = false
one_branch bytes wide = false
one_branch bytes reserved = false

abbrev is_table : Format → Bool
is_table (fixed os) = false
is_table tableswitch = true
is_table lookupswitch = false
is_table wide = false
is_table reserved = false

abbrev is_lookup : Format → Bool
is_lookup (fixed os) = false
is_lookup tableswitch = false
is_lookup lookupswitch = true
is_lookup wide = false
is_lookup reserved = false

abbrev fits : Branch → Format → Bool
fits Near f = one_branch 2 f
fits Far f = one_branch 4 f
fits Table f = is_table f
fits Lookup f = is_lookup f
fits Ends f = alike (branches_by f) false
fits Plain f = alike (branches_by f) false

-- one test over all opcodes
kinds_fit : (op : ℕ) → op < 256 → T (fits (branch_of op) (format_of op))
unfolding branch_of format_of
kinds_fit op below = every_at (λ k. fits (branch_of k) (format_of k)) 256 tt op below

alone_is : (bytes : ℕ) (os : List Operand) (code : List ℕ) (at : ℕ) → T (alone bytes os) → offsets_in os code at ≡ offset_at bytes code at ∷ []
alone_is bytes [] code at t = absurd t
alone_is bytes (o ∷ []) code at t = by_test (is_branch o) refl (both_first (is_branch o) (eqb (width o) bytes) t)
  where
    by_test : (b : Bool) → is_branch o ≡ b → T b → offsets_in (o ∷ []) code at ≡ offset_at bytes code at ∷ []
    by_test true e u = rw (e, eqb→eq (width o) bytes (both_second (is_branch o) (eqb (width o) bytes) t))
    by_test false e u = absurd u
alone_is bytes (o ∷ p ∷ os) code at t = absurd t

one_offset : (bytes : ℕ) (f : Format) (code : List ℕ) (pc : ℕ) → T (one_branch bytes f) → offsets_by f code pc ≡ offset_at bytes code (pc + 1) ∷ []
one_offset bytes (fixed os) code pc t = alone_is bytes os code (pc + 1) t
one_offset bytes tableswitch code pc t = absurd t
one_offset bytes lookupswitch code pc t = absurd t
one_offset bytes wide code pc t = absurd t
one_offset bytes reserved code pc t = absurd t

none_among : (os : List Operand) (code : List ℕ) (at : ℕ) → T (alike (branch_among os) false) → offsets_in os code at ≡ []
none_among [] code at t = refl
none_among (o ∷ os) code at t = by_test (is_branch o) refl (none_among os code (at + width o)) t
  where
    by_test :
        (b : Bool) → is_branch o ≡ b → (T (alike (branch_among os) false) → offsets_in os code (at + width o) ≡ []) →
        T (alike (pick b true (branch_among os)) false) → offsets_in (o ∷ os) code at ≡ []
    by_test true e rest u = absurd u
    by_test false e rest u = rw e (rest u)

no_offsets : (f : Format) (code : List ℕ) (pc : ℕ) → T (alike (branches_by f) false) → offsets_by f code pc ≡ []
no_offsets (fixed os) code pc t = none_among os code (pc + 1) t
no_offsets tableswitch code pc t = absurd t
no_offsets lookupswitch code pc t = absurd t
no_offsets wide code pc t = refl
no_offsets reserved code pc t = refl

module _ (code : List ℕ) (are : AreBytes code) (pc : ℕ) where
  table_by : (f : Format) → T (is_table f) → switch_targets code pc 4 (table_entries code pc) ≡ landings pc (offsets_by f code pc)
  table_by (fixed os) t = absurd t
  table_by tableswitch t = sym (table_leads code are pc)
  table_by lookupswitch t = absurd t
  table_by wide t = absurd t
  table_by reserved t = absurd t

  lookup_by : (f : Format) → T (is_lookup f) → switch_targets code pc 8 (lookup_pairs code pc) ≡ landings pc (offsets_by f code pc)
  lookup_by (fixed os) t = absurd t
  lookup_by tableswitch t = absurd t
  lookup_by lookupswitch t = sym (lookup_leads code are pc)
  lookup_by wide t = absurd t
  lookup_by reserved t = absurd t

  by_kind : (kind : Branch) (f : Format) → T (fits kind f) → targets_by kind code pc ≡ landings pc (offsets_by f code pc)
  by_kind Near f t = rw (one_offset 2 f code pc t, leads16 code are pc (pc + 1)) (sym (append-nil (target (2 ^ 15) (pc + i16_at code (pc + 1)))))
  by_kind Far f t = rw (one_offset 4 f code pc t, leads32 code are pc (pc + 1)) (sym (append-nil (target (2 ^ 31) (pc + i32_at code (pc + 1)))))
  by_kind Table f t = table_by f t
  by_kind Lookup f t = lookup_by f t
  by_kind Ends f t = rw (no_offsets f code pc t)
  by_kind Plain f t = rw (no_offsets f code pc t)

-- where an instruction lands
pub targets_agree : TargetsAgree
unfolding targets_at landings_at
targets_agree code are pc =
    by_kind code are pc (branch_of (byte_at code pc)) (format_of (byte_at code pc)) (kinds_fit (byte_at code pc) (are pc))

-- ---- where a block ends

abbrev pub ends : Branch → Bool
ends Near = true
ends Far = true
ends Table = true
ends Lookup = true
ends Ends = true
ends Plain = false

-- one test over all opcodes
ends_agree : (op : ℕ) → op < 256 → ends (branch_of op) ≡ ends_block op
unfolding branch_of ends_block format_of
ends_agree op below =
    alike_is (ends (branch_of op)) (ends_block op) (every_at (λ k. alike (ends (branch_of k)) (ends_block k)) 256 tt op below)

after_is : (kind : Branch) (next : ℕ) → after_by kind next ≡ pick (ends kind) (next ∷ []) []
after_is Near next = refl
after_is Far next = refl
after_is Table next = refl
after_is Lookup next = refl
after_is Ends next = refl
after_is Plain next = refl

-- what one instruction gives
pub leaders_agree :
    (code : List ℕ) → AreBytes code → (pc next : ℕ) →
    leaders_at code pc next ≡ landings_at code pc ++ pick (ends_block (byte_at code pc)) (next ∷ []) []
unfolding leaders_at targets_at
leaders_agree code are pc next =
    ap₂ ◌++◌ (targets_agree code are pc)
    (after_is (branch_of (byte_at code pc)) next ∙ ap (λ (b : Bool). pick b (next ∷ []) []) (ends_agree (byte_at code pc) (are pc)))
