-- What is known of a member, by the tests that the code makes: no texts or some in a run; resolved or not, and of which kind, in a pool.
-- Assumes nothing.
use Rattle.std.specs.Prelude.{Some, None}
use Prim.Native.Nat.{ℕ}
use mathlib.Core.Path.{◌≡◌, ◌∙◌}
use mathlib.Core.List.{List}
use lib.ListN.{length}
use borrow.Author.Tests.{eq-eqb, ne_eqb}
use Rattle.descriptor.specs.Readers.{parameters, slots_behind}
use Rattle.descriptor.specs.declared.Params.{Params}
use Rattle.descriptor.proofs.Few.{few_slots}
use Rattle.descriptor.proofs.Return.{behind_end}
use Rattle.items.specs.Text.{descriptor_of}
use Rattle.index.specs.Index.{found_by}
use Rattle.classformat.specs.Contents.{spelled}
use Rattle.entries.specs.Entries.{entry_by, names_by, resolved_by}
use Rattle.entries.specs.declared.Resolved.{Resolved}
use Rattle.effects.specs.Lookup.{missing, known}
use Rattle.effects.proofs.Known.{known_none, known_some}
use Rattle.members.specs.Members.{lookup_by, pool_lookup, signature_of}

-- ---- in a run: texts, what the code found

module _ (members : List ℕ) (count : ℕ) (table : List ℕ) (kind index : ℕ) (texts : List ℕ)
    (is : texts ≡ found_by members count table index kind) where
  pub run_none : length texts ≡ 0 → lookup_by members count table kind index ≡ missing
  unfolding lookup_by
  run_none none = rw (← is) (known_none texts none)

  pub run_some : (length texts ≡ 0 → ⊥) → lookup_by members count table kind index ≡ known (descriptor_of texts)
  unfolding lookup_by
  run_some some = rw (← is) (known_some texts some)

-- ---- in a pool

module _ (file table : List ℕ) (kind index : ℕ) where
  pub pool_none : resolved_by (entry_by file table) index ≡ None → pool_lookup file table kind index ≡ missing
  unfolding pool_lookup
  pool_none e = rw e

  module _ (member : Resolved) (e : resolved_by (entry_by file table) index ≡ Some member) where
    pub pool_other : (member.kind ≡ kind → ⊥) → pool_lookup file table kind index ≡ missing
    unfolding pool_lookup
    pool_other other = rw (e, ne_eqb member.kind kind other)

    pub pool_some : member.kind ≡ kind → pool_lookup file table kind index ≡ known (spelled (names_by file table member.descriptor))
    unfolding pool_lookup
    pool_some same = rw (e, eq-eqb member.kind kind same)

-- ---- the slots of a call, by its descriptor

module _ (descriptor : List ℕ) where
  pub unread : parameters descriptor ≡ None → None ≡ signature_of descriptor
  unread e = rw e

  pub endless :
      (p : Params) → parameters descriptor ≡ Some p → slots_behind descriptor (Some p.end) ≡ None →
      None ≡ signature_of descriptor
  endless p e r = rw (e, behind_end descriptor p e ∙ r)

  pub read :
      (p : Params) (gives : ℕ) → parameters descriptor ≡ Some p → slots_behind descriptor (Some p.end) ≡ Some gives →
      Some (record { args = p.slots; gives = gives }) ≡ signature_of descriptor
  read p gives e r = rw (e, behind_end descriptor p e ∙ r)

-- for `signature_slots`, and for what reads a run or a pool
pub ruleset called = (few_slots, unread, endless, read)

pub ruleset in_run = (run_none, run_some)

pub ruleset in_pool = (pool_none, pool_other, pool_some)
