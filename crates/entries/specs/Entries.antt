-- What a pool number leads to, by a table of the places where the pool's entries stand: where the table serves the pool, this is what the
-- pool holds. And a member that resolves fully (document 02, request 3).
-- Assumes nothing.
use Rattle.std.specs.Prelude.{ℕ, ◌+◌, List, [], ◌∷◌, ◌≡◌, eqb, ltb, length, get_or, Option, Some, None}
use Rattle.basics.specs.Bytes.{byte_at, u16_at}
use Rattle.basics.specs.Choice.{pick, one_of}
use Rattle.classformat.specs.Contents.{Pool, entry_in, then_text, then_class, then_member, then_named, Name, name_of}
use Rattle.classformat.specs.declared.Entry.{Entry}
use Rattle.classformat.specs.declared.Entry.TheVariants.{Text, Class, Member, Named, Other, Nothing}
use Rattle.entries.specs.declared.Resolved.{Resolved}

-- behind a tag (4.4, Table 4.4-A)
unfoldable pub entry_behind : List ℕ → ℕ → ℕ → Entry
entry_behind file tag at =
    pick (eqb tag 1) (Text (at + 2) (u16_at file at))
    (pick (eqb tag 7) (Class (u16_at file at))
    (pick (eqb tag 9) (Member 0 (u16_at file at) (u16_at file (at + 2)))
    (pick (one_of (10 ∷ 11 ∷ []) tag) (Member 1 (u16_at file at) (u16_at file (at + 2)))
    (pick (eqb tag 12) (Named (u16_at file at) (u16_at file (at + 2)))
    Other))))

-- at a place, which is that of its tag; 0 is none, and neither is one outside the file
unfoldable pub entry_at : List ℕ → ℕ → Entry
entry_at file place =
    pick (eqb place 0) Nothing (pick (ltb place (length file)) (entry_behind file (byte_at file place) (place + 1)) Nothing)

-- the entry with a number, by a table of places
abbrev pub entry_by : List ℕ → List ℕ → ℕ → Entry
entry_by file table index = entry_at file (get_or table index 0)

-- the name that a number leads to
abbrev pub names_by : List ℕ → List ℕ → ℕ → Name
names_by file table index = name_of file (entry_by file table index)

-- the table leads to each entry of the pool, and nowhere else
abbrev pub Serves : List ℕ → List ℕ → Pool → Type 0
Serves file table pool = (index : ℕ) → entry_by file table index ≡ entry_in pool index

-- ---- a member that resolves fully: to a class with a name, and to a name and a descriptor

unfoldable pub resolved_by : (ℕ → Entry) → ℕ → Option Resolved
resolved_by entry index =
    then_member (entry index) None (λ kind class pair.
    then_class (entry class) None (λ owner.
    then_named (entry pair) None (λ name descriptor.
    then_text (entry owner) None (λ start size. then_text (entry name) None (λ start size. then_text (entry descriptor) None (λ start size.
    Some (record { kind = kind; class = owner; name = name; descriptor = descriptor })))))))
