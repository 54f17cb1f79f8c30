-- The bytes of a member, of a local record and of the runs of them, and which parts are the parts of a case (document 01,
-- "The case"). The statements at the end are proved in proofs/ of this crate.
-- Assumes nothing.
use Rattle.std.specs.Prelude.{ℕ, ◌≤◌, ◌<◌, ◌≡◌, List, [], ◌∷◌, ◌++◌, length, Ok}
use Rattle.basics.specs.Bytes.{AreBytes}
use Rattle.number.specs.Number.{greatest, number_bytes}
use Rattle.items.specs.Text.{text_bytes}
use Rattle.casefile.specs.Parts.{Parts, case_bytes, parts_of}
use Rattle.casefile.specs.Whole.{longest, case_of}
use Rattle.casefile.specs.declared.Places.{Places}

-- ---- members

pub record Member : Type 0 where
  pub index : ℕ
  pub kind : ℕ
  pub class : List ℕ
  pub name : List ℕ
  pub descriptor : List ℕ

-- "class text, name text, descriptor text"
unfoldable pub texts_bytes : Member → List ℕ
texts_bytes m = text_bytes m.class ++ (text_bytes m.name ++ text_bytes m.descriptor)

-- "A member: pool index, kind (0 field, 1 method), class text, name text, descriptor text."
unfoldable pub member_bytes : Member → List ℕ
member_bytes m = number_bytes m.index ++ (number_bytes m.kind ++ texts_bytes m)

unfoldable pub members_bytes : List Member → List ℕ
members_bytes [] = []
members_bytes (m ∷ ms) = member_bytes m ++ members_bytes ms

-- a member within the limits
pub record RightMember (m : Member) : Type 0 where
  pub index : m.index ≤ greatest
  pub kind : m.kind ≤ 1
  pub class : length m.class ≤ greatest
  pub name : length m.name ≤ greatest
  pub descriptor : length m.descriptor ≤ greatest

-- "Pool indexes are above 0 and strictly rise."
pub data RightMembers : ℕ → List Member → Type 0 where
  none : {last : ℕ} → RightMembers last []
  more :
      {last : ℕ} {m : Member} {ms : List Member} → last < m.index → RightMember m → RightMembers m.index ms →
      RightMembers last (m ∷ ms)

-- a run of so many members
pub record MemberRun (count : ℕ) (run : List ℕ) : Type 0 where
  pub members : List Member
  pub right : RightMembers 0 members
  pub counted : length members ≡ count
  pub bytes : run ≡ members_bytes members

-- ---- local records

pub record Local : Type 0 where
  pub start : ℕ
  pub size : ℕ
  pub slot : ℕ
  pub name : List ℕ

-- "A local record: start, length, slot, name text."
unfoldable pub record_bytes : Local → List ℕ
record_bytes r = number_bytes r.start ++ (number_bytes r.size ++ (number_bytes r.slot ++ text_bytes r.name))

unfoldable pub records_bytes : List Local → List ℕ
records_bytes [] = []
records_bytes (r ∷ rs) = record_bytes r ++ records_bytes rs

-- a local record within the limits
pub record RightLocal (r : Local) : Type 0 where
  pub start : r.start ≤ greatest
  pub size : r.size ≤ greatest
  pub slot : r.slot ≤ greatest
  pub name : length r.name ≤ greatest

pub data RightLocals : List Local → Type 0 where
  none : RightLocals []
  more : {r : Local} {rs : List Local} → RightLocal r → RightLocals rs → RightLocals (r ∷ rs)

-- a run of so many local records
pub record RecordRun (count : ℕ) (run : List ℕ) : Type 0 where
  pub locals : List Local
  pub right : RightLocals locals
  pub counted : length locals ≡ count
  pub bytes : run ≡ records_bytes locals

-- ---- the whole case

-- parts that satisfy the layout, and whose case is not too long
pub record LaidOut (p : Parts) : Type 0 where
  pub flags : p.flags ≤ greatest
  pub fault : p.fault ≤ greatest
  pub code : length p.code ≤ greatest
  pub signature : length p.signature ≤ greatest
  pub member_count : p.member_count ≤ greatest
  pub members : MemberRun p.member_count p.members
  pub record_count : p.record_count ≤ greatest
  pub records : RecordRun p.record_count p.records
  pub short : length (case_bytes p) ≤ longest

-- ---- the statements

-- reading what parts lay out to gives these parts
abbrev pub ReadsBack : Type 0
ReadsBack =
    (p : Parts) → LaidOut p →
    (places : Places) × (case_of (case_bytes p) ≡ Ok places) × (parts_of (case_bytes p) places ≡ p)

-- whatever is accepted is what the parts read lay out to, and these satisfy the layout
abbrev pub AcceptedIsLaidOut : Type 0
AcceptedIsLaidOut =
    (bytes : List ℕ) → AreBytes bytes → (places : Places) → case_of bytes ≡ Ok places →
    LaidOut (parts_of bytes places) × (bytes ≡ case_bytes (parts_of bytes places))
