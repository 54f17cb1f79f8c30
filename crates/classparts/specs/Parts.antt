-- The parts of a class file's method, which are those of the case that the file stands for (document 02, request 3: the caller "gets the
-- same answer as for the case with the same parts").
-- Assumes nothing.
use Rattle.std.specs.Prelude.{ℕ, suc, List, [], ◌∷◌, ◌++◌, length, Option, Some, None}
use Rattle.casefile.specs.Parts.{Parts}
use Rattle.cases.specs.LaidOut as laid
use Rattle.format.specs.Format.{bytes_at}
use Rattle.classformat.specs.Contents.{Pool, entry_in, name_of, spelled, Local, Code, Method, ClassFile}
use Rattle.classformat.specs.declared.Entry.{Entry}
use Rattle.entries.specs.Entries.{resolved_by}
use Rattle.entries.specs.declared.Resolved.{Resolved}
use Rattle.classtexts.specs.Texts.{turned_member, turned_local, signature_of}

module _ (file : List ℕ) (entry : ℕ → Entry) where
  -- the bytes of the text that a pool number leads to, none where it leads to none
  abbrev pub text_by : ℕ → List ℕ
  text_by number = spelled (name_of file (entry number))

  -- ---- members

  -- a member by the numbers of its texts
  abbrev pub member_as : ℕ → Option Resolved → List laid.Member
  member_as number (Some member) =
      turned_member number member.kind (text_by member.class) (text_by member.name) (text_by member.descriptor) ∷ []
  member_as number None = []

  -- the member with a number, alone, and none where it does not resolve
  unfoldable pub member_by : ℕ → List laid.Member
  member_by number = member_as number (resolved_by entry number)

  -- the members with so many numbers from one on
  unfoldable pub members_from : ℕ → Pool → List laid.Member
  members_from number [] = []
  members_from number (one ∷ more) = member_by number ++ members_from (suc number) more

  -- ---- local records

  abbrev pub local_by : Local → laid.Local
  local_by l = turned_local l.start l.size l.slot (text_by l.name)

  -- "Several local tables join in file order", as a Code has them already
  unfoldable pub locals_of : List Local → List laid.Local
  locals_of [] = []
  locals_of (l ∷ locals) = local_by l ∷ locals_of locals

-- "The table handed to demand 2 holds each member that resolves fully"
unfoldable pub members_of : List ℕ → Pool → List laid.Member
members_of file pool = members_from file (entry_in pool) 0 pool

-- ---- the parts

unfoldable pub parts_of : List ℕ → ClassFile → Method → Code → ℕ → Parts
parts_of file c m code fault =
    let entry = entry_in c.pool in
    let members = members_of file c.pool in
    let locals = locals_of file entry code.tables.locals in
    record {
      flags = m.flags;
      fault = fault;
      code = bytes_at file code.start code.size;
      signature = signature_of (text_by file entry m.name) (text_by file entry m.descriptor);
      member_count = length members;
      members = laid.members_bytes members;
      record_count = length locals;
      records = laid.records_bytes locals;
    }
