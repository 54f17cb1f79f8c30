-- One member and one local record are enough (document 02, request 3): what fails, its words and the name of a local are those that
-- the whole tables give, where the member table holds the one member that the faulting instruction cites, and the local table the one
-- record that names the local. So the tables of a class file need not be laid out. The statements are proved in proofs/ of this crate.
-- Assumes nothing.
use Rattle.std.specs.Prelude.{ℕ, ◌+◌, ◌≤◌, ◌≡◌, Bool, List, [], ◌∷◌, eqb, length}
use Rattle.basics.specs.Bytes.{u16_at}
use Rattle.basics.specs.Choice.{pick}
use Rattle.cases.specs.LaidOut.{Member, members_bytes, RightMembers, Local, records_bytes, RightLocals}
use Rattle.cases.specs.Lookup.{found_in}
use Rattle.search.specs.Search.{covers}
use Rattle.locals.specs.Name.{unnamed, local_name}
use Rattle.fault.specs.Decoding.{action_of, decoded}
use Rattle.action.specs.Action.{action_text}
use Rattle.words.specs.declared.Wording.{Wording}

-- the first of a list that passes a test, alone; none where none passes
unfoldable pub first : {A : Type 0} → (A → Bool) → List A → List A
first test [] = []
first test (x ∷ xs) = pick (test x) (x ∷ []) (first test xs)

-- ---- one member

abbrev pub has_index : ℕ → Member → Bool
has_index index m = eqb m.index index

-- the member with an index, alone
abbrev pub only : ℕ → List Member → List Member
only index ms = first (has_index index) ms

-- the member that the instruction at a fault cites
abbrev pub cited : List ℕ → ℕ → List Member → List Member
cited code fault ms = only (u16_at code (fault + 1)) ms

-- At most one member is left, in a table that is right where the whole one is. The lookup of its index finds in it what it finds in
-- the whole table, the fault decodes to the same, and the action has the same words in every wording.
pub record OneIsEnough : Type 0 where
  pub single : (index : ℕ) (ms : List Member) → length (only index ms) ≤ 1
  pub right : (index : ℕ) (ms : List Member) → RightMembers 0 ms → RightMembers 0 (only index ms)
  pub found :
      (ms : List Member) → RightMembers 0 ms → (index kind : ℕ) → found_in (only index ms) index kind ≡ found_in ms index kind
  pub fault :
      (ms : List Member) → RightMembers 0 ms → (code : List ℕ) (fault : ℕ) →
      decoded code (members_bytes (cited code fault ms)) (length (cited code fault ms)) fault
      ≡ decoded code (members_bytes ms) (length ms) fault
  pub action :
      (wording : Wording) (ms : List Member) → RightMembers 0 ms → (op index : ℕ) →
      action_text wording (members_bytes (only index ms)) (length (only index ms)) (action_of op index)
      ≡ action_text wording (members_bytes ms) (length ms) (action_of op index)

-- ---- one local record

abbrev pub covers_load : ℕ → ℕ → Local → Bool
covers_load slot load r = covers r.start r.size r.slot slot load

-- the first record of a slot whose window holds the load's index, alone
abbrev pub covering : ℕ → ℕ → List Local → List Local
covering slot load rs = first (covers_load slot load) rs

-- the name of the first record, or another where there is none
abbrev pub name_or : List Local → List ℕ → List ℕ
name_or [] other = other
name_or (r ∷ rs) other = r.name

-- At most one record is left, in a table that is right where the whole one is. The local has the name of that record, and the name
-- that it has without a record where none is left; so it has the same name by the one record as by all.
pub record OneNames : Type 0 where
  pub single : (slot load : ℕ) (rs : List Local) → length (covering slot load rs) ≤ 1
  pub right : (slot load : ℕ) (rs : List Local) → RightLocals rs → RightLocals (covering slot load rs)
  pub named :
      (rs : List Local) → RightLocals rs → (signature : List ℕ) (instance : Bool) (slot load : ℕ) →
      local_name (records_bytes rs) (length rs) signature instance slot load
      ≡ name_or (covering slot load rs) (unnamed signature instance slot)
  pub name :
      (rs : List Local) → RightLocals rs → (signature : List ℕ) (instance : Bool) (slot load : ℕ) →
      local_name (records_bytes (covering slot load rs)) (length (covering slot load rs)) signature instance slot load
      ≡ local_name (records_bytes rs) (length rs) signature instance slot load
