-- What follows from how an opcode bears on blocks.
-- Assumes nothing.
use Prim.Native.Nat.{ℕ, max, ◌<◌}
use native.Mathlib.Omega.{arith}
use mathlib.Core.Path.{◌≡◌, subst}
use mathlib.Core.Bool.{Bool, true}
use mathlib.Core.List.{List, [], ◌∷◌}
use lib.Dec.{T, eqb, eqb→eq}
use Rattle.basics.specs.Bytes.{byte_at}
use Rattle.basics.proofs.Every.{every_at}
use Rattle.jvms.specs.Format.{format_of}
use Rattle.bytecode.specs.Length.{table_bytes, lookup_bytes, bytes_of}
use Rattle.greatest.specs.Greatest.{up_to, greatest}
use Rattle.leader.specs.Targets.{targets_by, after_by, leaders_at}
use Rattle.branch.specs.Branch.{branch_of}
use Rattle.branch.specs.declared.Branch.{Branch}
use Rattle.branch.specs.declared.Branch.TheVariants.{Near, Far, Table, Lookup, Ends, Plain}
use Rattle.leader.proofs.Greatest.{raised_by, greatest_one}

-- a kind that belongs to one opcode
abbrev owned : Branch → ℕ → Bool
owned Near op = true
owned Far op = true
owned Table op = eqb op 170
owned Lookup op = eqb op 171
owned Ends op = true
owned Plain op = true

owners : (op : ℕ) → op < 256 → T (owned (branch_of op) op)
unfolding branch_of
owners op below = every_at (λ k. owned (branch_of k) k) 256 tt op below

module _ (code : List ℕ) (pc : ℕ) (byte : byte_at code pc < 256) where
  pub table-bytes : branch_of (byte_at code pc) ≡ Table → bytes_of code pc ≡ table_bytes code pc
  unfolding bytes_of format_of
  table-bytes e =
      rw (eqb→eq (byte_at code pc) 170 (subst (λ (k : Branch). T (owned k (byte_at code pc))) e (owners (byte_at code pc) byte)))

  pub lookup-bytes : branch_of (byte_at code pc) ≡ Lookup → bytes_of code pc ≡ lookup_bytes code pc
  unfolding bytes_of format_of
  lookup-bytes e =
      rw (eqb→eq (byte_at code pc) 171 (subst (λ (k : Branch). T (owned k (byte_at code pc))) e (owners (byte_at code pc) byte)))

-- a running maximum over the leaders of one instruction, by its kind
module _ (code : List ℕ) (pc next limit best : ℕ) where
  pub plain : branch_of (byte_at code pc) ≡ Plain → best ≡ max best (greatest limit (leaders_at code pc next))
  unfolding leaders_at greatest
  plain e = rw e (omega arith)

  pub up_to_next :
      (kind : Branch) (aimed all : ℕ) → branch_of (byte_at code pc) ≡ kind → after_by kind next ≡ next ∷ [] →
      aimed ≡ max best (greatest limit (targets_by kind code pc)) → all ≡ max aimed (up_to limit next) →
      all ≡ max best (greatest limit (leaders_at code pc next))
  unfolding leaders_at
  up_to_next kind aimed all e after aimed-is all-is =
      rw (e, after)
      (omega (arith, aimed-is, all-is, raised_by limit best (targets_by kind code pc) (next ∷ []), greatest_one limit next))
