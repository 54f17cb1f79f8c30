-- The run of the one member that a number leads to.
-- Assumes nothing.
use Rattle.std.specs.Prelude.{Option, Some, None}
use Prim.Native.Nat.{ℕ, ◌<◌}
use native.Mathlib.Omega.{arith}
use mathlib.Core.Path.{◌≡◌, refl, ◌∙◌, ap}
use mathlib.Core.List.{List, [], ◌++◌, append-nil}
use lib.Dec.{ltb}
use lib.ListN.{length, length-append}
use borrow.Author.Tests.{lt-ltb}
use Rattle.basics.specs.Choice.{pick}
use Rattle.number.specs.Number.{number_bytes}
use Rattle.cases.specs.LaidOut.{texts_bytes, member_bytes, members_bytes}
use Rattle.cases.proofs.Found.{lookup_declared}
use Rattle.entries.specs.Entries.{entry_by, resolved_by}
use Rattle.entries.specs.declared.Resolved.{Resolved}
use Rattle.classtexts.specs.Texts.{turned_member}
use Rattle.classparts.specs.Parts.{text_by, member_as, member_by}

module _ (file table : List ℕ) (index : ℕ) where
  pub no_run : resolved_by (entry_by file table) index ≡ None → members_bytes (member_by file (entry_by file table) index) ≡ []
  unfolding member_by members_bytes
  no_run is = ap (λ (r : Option Resolved). members_bytes (member_as file (entry_by file table) index r)) is

  pub one_run :
      {member : Resolved} → resolved_by (entry_by file table) index ≡ Some member →
      members_bytes (member_by file (entry_by file table) index)
      ≡ member_bytes (turned_member index member.kind (text_by file (entry_by file table) member.class) (text_by file (entry_by file table) member.name)
      (text_by file (entry_by file table) member.descriptor))
  unfolding member_by members_bytes
  one_run is =
      ap (λ (r : Option Resolved). members_bytes (member_as file (entry_by file table) index r)) is ∙ append-nil _

  -- a run that has bytes has its member
  pub counted :
      length (member_by file (entry_by file table) index)
      ≡ pick (ltb 0 (length (members_bytes (member_by file (entry_by file table) index)))) 1 0
  unfolding member_by members_bytes member_bytes
  counted = by (resolved_by (entry_by file table) index)
    where
      by :
          (r : Option Resolved) →
          length (member_as file (entry_by file table) index r)
          ≡ pick (ltb 0 (length (members_bytes (member_as file (entry_by file table) index r)))) 1 0
      by None = refl
      by (Some member) =
          let m = turned_member index member.kind (text_by file (entry_by file table) member.class) (text_by file (entry_by file table) member.name)
          (text_by file (entry_by file table) member.descriptor) in
          let some : 0 < length (member_bytes m ++ []) =
          omega (
            arith,
            lookup_declared.not_empty m,
            length-append (member_bytes m) [],
            length-append (number_bytes index) (number_bytes member.kind ++ texts_bytes m),
            length-append (number_bytes member.kind) (texts_bytes m),
          ) in
          rw (lt-ltb 0 (length (member_bytes m ++ [])) some)
