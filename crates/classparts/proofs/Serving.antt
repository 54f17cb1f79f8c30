-- A table that serves the pool leads to the same texts, members and local records.
-- Rests on: the one member with a number (Members).
-- Assumes nothing.
use Prim.Native.Nat.{ℕ}
use mathlib.Core.Path.{◌≡◌, ◌∙◌, sym, ap, fun_ext}
use mathlib.Core.List.{List}
use Rattle.classformat.specs.Contents.{Pool, entry_in}
use Rattle.classformat.specs.declared.Entry.{Entry}
use Rattle.entries.specs.Entries.{entry_by, Serves}
use Rattle.classparts.specs.Parts.{text_by, member_by, locals_of}
use Rattle.classparts.specs.Right.{ServedAlike}
use Rattle.classparts.proofs.Members.{members_declared}

-- the two lookups are one
one_lookup : (file table : List ℕ) (pool : Pool) → Serves file table pool → entry_by file table ≡ entry_in pool
one_lookup file table pool serves = fun_ext serves

pub served_alike : ServedAlike
served_alike =
    record {
      text =
          λ file table pool serves number.
          ap (λ (entry : ℕ → Entry). text_by file entry number) (one_lookup file table pool serves);
      member =
          λ file table pool serves index.
          ap (λ (entry : ℕ → Entry). member_by file entry index) (one_lookup file table pool serves)
          ∙ sym (members_declared.single file pool index);
      locals =
          λ file table pool serves locals.
          ap (λ (entry : ℕ → Entry). locals_of file entry locals) (one_lookup file table pool serves);
    }
