-- The rows of both models and document 01's depths against the operands and results of JVMS.
--
-- The claim (`ModelAgrees`, below): at every key that a model has, an opcode alone or behind `wide`, for every member that an
-- instruction may cite, any dimensions and each form of an opcode that has several, the slots that its row takes and gives are those of
-- JVMS's operands and results, and each slot that it carries along is the operand that JVMS puts there. `checkcast` alone is apart: its
-- row keeps the list. And (`DepthsAgree`) the depth of a reference is the number of slots above the operand that JVMS names objectref
-- or arrayref.
--
-- A row worked out: swap, opcode 95. JVMS 6.5 draws "..., value2, value1 → ..., value1, value2", which is the entry
--     does (category1 value2 ∷ category1 value1 ∷ [] ⇒ category1 value1 ∷ category1 value2 ∷ [])
-- and document 01's row is
--     carries 2 (1 ∷ 2 ∷ [])
-- Both take two slots and give two. Where a and b are taken, b on top, JVMS's results are b and a by their names; the row's places,
-- counted from the top, are 1 and 2: b and a.
--
-- Said of any table of rows (`Agreeing`); proofs/ of this crate has a proof of each statement.
-- Assumes nothing.
use Rattle.std.specs.Prelude.{ℕ, ◌+◌, ◌-◌, ◌<◌, ◌≡◌, Bool, true, false, T, eqb, leb, length, get_or}
use mathlib.Core.List.{List, [], ◌∷◌, map, Memᴰ}
use Rattle.basics.specs.Bytes.{byte_at, AreBytes}
use Rattle.basics.specs.Choice.{pick, both, one_of, between}
use Rattle.jvms.specs.Extent.{takes, extent_at}
use Rattle.jvms.specs.Machine.{is_reference, run, results}
use Rattle.jvms.specs.Stack.{objectref, Operand, reference, Form, ◌⇒◌, Local, indexed, far, numbered, Entry, unlisted, does, either_of, loads, stores, increments, throws}
use Rattle.jvms.specs.Stack.{Cited, slots_of, slots_in, name_of, entry_of, key_at, key_count, operands_of}
use Rattle.fixed.specs.Fixed.{fixed_length, key_length, size_at}
use Rattle.effects.specs.Depth.{Rule, none, fixed, reads, writes, invokes, rule_of}
use Rattle.effects.specs.Rows.{Row, unmodelled, opaque, aload, aload_far, aload_of, carries, keeps, gets, calls, puts, makes, row_of, full_row_of, rows_of}
use Rattle.effects.specs.declared.Model.{Model}

-- ---- what a row says

abbrev pub is_modelled : Row → Bool
is_modelled unmodelled = false
is_modelled (opaque taken given) = true
is_modelled aload = true
is_modelled aload_far = true
is_modelled (aload_of local) = true
is_modelled (carries taken places) = true
is_modelled keeps = true
is_modelled (gets taken) = true
is_modelled (calls taken) = true
is_modelled (puts taken) = true
is_modelled makes = true

-- modelled, and not `checkcast`, which document 01 lets keep the list and ask for no slot
abbrev pub has_effect : Row → Bool
has_effect unmodelled = false
has_effect (opaque taken given) = true
has_effect aload = true
has_effect aload_far = true
has_effect (aload_of local) = true
has_effect (carries taken places) = true
has_effect keeps = false
has_effect (gets taken) = true
has_effect (calls taken) = true
has_effect (puts taken) = true
has_effect makes = true

-- the slots that a row takes and those that it gives, where the cited member has so many and there are so many dimensions
abbrev pub taken_by : Row → Cited → ℕ
taken_by unmodelled cited = 0
taken_by (opaque taken given) cited = taken
taken_by aload cited = 0
taken_by aload_far cited = 0
taken_by (aload_of local) cited = 0
taken_by (carries taken places) cited = taken
taken_by keeps cited = 0
taken_by (gets taken) cited = taken
taken_by (calls taken) cited = taken + cited.args
taken_by (puts taken) cited = taken + cited.field
taken_by makes cited = cited.dims

abbrev pub given_by : Row → Cited → ℕ
given_by unmodelled cited = 0
given_by (opaque taken given) cited = given
given_by aload cited = 1
given_by aload_far cited = 1
given_by (aload_of local) cited = 1
given_by (carries taken places) cited = length places
given_by keeps cited = 0
given_by (gets taken) cited = cited.field
given_by (calls taken) cited = cited.gives
given_by (puts taken) cited = 0
given_by makes cited = 1

-- What a row says of the slots that are pushed, where `taken` were taken: each is one of those, by its number from the top;
-- or each is the instruction's own.
abbrev pub Carried : {Val : Type 0} → List ℕ → List Val → List Val → Type 0
Carried {Val} places taken pushed = (absent : Val) → pushed ≡ map (λ place. get_or taken (length taken - place) absent) places

abbrev pub Pushed : {Val : Type 0} → Row → Cited → List Val → (ℕ → Val) → List Val → Type 0
Pushed unmodelled cited taken own pushed = pushed ≡ []
Pushed (opaque t given) cited taken own pushed = pushed ≡ run given 0 own
Pushed aload cited taken own pushed = pushed ≡ run 1 0 own
Pushed aload_far cited taken own pushed = pushed ≡ run 1 0 own
Pushed (aload_of local) cited taken own pushed = pushed ≡ run 1 0 own
Pushed (carries t places) cited taken own pushed = Carried places taken pushed
Pushed keeps cited taken own pushed = pushed ≡ []
Pushed (gets t) cited taken own pushed = pushed ≡ run cited.field 0 own
Pushed (calls t) cited taken own pushed = pushed ≡ run cited.gives 0 own
Pushed (puts t) cited taken own pushed = pushed ≡ []
Pushed makes cited taken own pushed = pushed ≡ run 1 0 own

-- every place is that of a slot that is taken
abbrev pub within : ℕ → List ℕ → Bool
within taken [] = true
within taken (place ∷ places) = both (between 1 taken place) (within taken places)

-- ---- a row against what JVMS says

-- "..., before → ..., after"
pub record FormAgrees (row : Row) (form : Form) : Type 1 where
  pub taken : (cited : Cited) → slots_in cited form.before ≡ taken_by row cited
  pub given : (cited : Cited) → slots_in cited form.after ≡ given_by row cited
  -- for values of any type, and any own results
  pub pushed :
      (Val : Type 0) (cited : Cited) (operands : List Val) (own : ℕ → Val) → length operands ≡ taken_by row cited →
      Pushed row cited operands own (results cited form.before operands own 0 form.after)

-- the forms of an entry, all where it has several; none where control does not go on
abbrev pub forms_of : Entry → List Form
forms_of unlisted = []
forms_of (does f) = f ∷ []
forms_of (either_of f others) = f ∷ others
forms_of (loads l f) = f ∷ []
forms_of (stores l f) = f ∷ []
forms_of (increments l f) = f ∷ []
forms_of (throws os) = []

abbrev pub has_form : List Form → Bool
has_form [] = false
has_form (f ∷ fs) = true

-- the local whose value an entry loads
abbrev pub local_of : Entry → List Local
local_of unlisted = []
local_of (does f) = []
local_of (either_of f others) = []
local_of (loads l f) = l ∷ []
local_of (stores l f) = []
local_of (increments l f) = []
local_of (throws os) = []

-- of the row of a key: which local is loaded, that places are those of slots taken, that a field or a method is cited, or that there are
-- dimensions
abbrev pub Details : Row → ℕ → Type 0
Details unmodelled key = Unit {0}
Details (opaque taken given) key = Unit {0}
Details aload key = local_of (entry_of key) ≡ indexed ∷ []
Details aload_far key = local_of (entry_of key) ≡ far ∷ []
Details (aload_of local) key = (local_of (entry_of key) ≡ numbered local ∷ []) × (local < 256)
Details (carries taken places) key = T (within taken places)
Details keeps key = Unit {0}
Details (gets taken) key = T (between 178 181 key)
Details (calls taken) key = T (between 182 185 key)
Details (puts taken) key = T (between 178 181 key)
Details makes key = T (eqb key 197)

pub record EffectAgrees (key : ℕ) (row : Row) : Type 1 where
  pub some : T (has_form (forms_of (entry_of key)))
  pub each : (form : Form) → Memᴰ form (forms_of (entry_of key)) → FormAgrees row form
  pub details : Details row key

pub record Agreeing (rows : ℕ → Row) : Type 1 where
  -- every modelled key but that of `checkcast`
  pub effect : (key : ℕ) → key < key_count → T (has_effect (rows key)) → EffectAgrees key (rows key)
  -- `checkcast`: JVMS takes its objectref and gives it back
  pub kept :
      (key : ℕ) → key < key_count → rows key ≡ keeps → entry_of key ≡ does (reference objectref ∷ [] ⇒ reference objectref ∷ [])
  -- the length of a modelled instruction is that of its key, by JVMS as by document 01
  pub sized :
      (code : List ℕ) → AreBytes code → (pc : ℕ) → T (is_modelled (rows (key_at code pc))) →
      extent_at code pc ≡ takes (size_at code pc)

-- those of both models
abbrev pub ModelAgrees : Type 1
ModelAgrees = (model : Model) → Agreeing (rows_of model)

-- every modelled instruction has a byte, so a walk that goes on comes nearer to the fault
abbrev pub Sized : (ℕ → Row) → Type 0
Sized rows = (key : ℕ) → key < key_count → T (is_modelled (rows key)) → 0 < key_length key

abbrev pub ModelSized : Type 0
ModelSized = (model : Model) → Sized (rows_of model)

-- "0 to 78 (constants, loads, array loads, stores to locals), `pop`, `pop2`, `dup`, `dup2`, `swap`, `iinc`, `checkcast`,
-- `instanceof`, `new`, `newarray`, `anewarray`, `arraylength`, `getstatic`, `getfield`, and the four invokes 182 to 185. All
-- else fails"
abbrev pub documented : ℕ → Bool
documented op =
    pick (leb op 78) true
    (one_of (87 ∷ 88 ∷ 89 ∷ 92 ∷ 95 ∷ 132 ∷ 192 ∷ 193 ∷ 187 ∷ 188 ∷ 189 ∷ 190 ∷ 178 ∷ 180 ∷ 182 ∷ 183 ∷ 184 ∷ 185 ∷ []) op)

abbrev pub ModelsDocumented : Type 0
ModelsDocumented = (key : ℕ) → key < key_count → is_modelled (row_of key) ≡ documented key

-- "arithmetic (96 to 131), conversions, comparisons (148 to 152), stores to arrays, `putfield`, `putstatic`, the four missing forms
-- (90, 91, 93, 94), `monitorenter`, `monitorexit` and `multianewarray`" (document 02, request 1); the conversions are 133 to 147
abbrev pub added : ℕ → Bool
added op =
    pick (between 96 131 op) true
    (pick (between 133 147 op) true
    (pick (between 148 152 op) true
    (pick (between 79 86 op) true (one_of (181 ∷ 179 ∷ 90 ∷ 91 ∷ 93 ∷ 94 ∷ 194 ∷ 195 ∷ 197 ∷ []) op))))

-- "accept `wide` before loads (21 to 25), stores (54 to 58) and `iinc`; any other opcode after it fails" (document 02, request 7)
abbrev pub widens : ℕ → Bool
widens op = pick (between 21 25 op) true (pick (between 54 58 op) true (eqb op 132))

-- the full model has document 01's opcodes, those that are added and those behind `wide`; "`invokedynamic` still fails", and so does all
-- else. Where document 01 models an opcode, its row is the full model's.
pub record ModelsAdded : Type 0 where
  pub exactly : (op : ℕ) → op < 256 → is_modelled (full_row_of op) ≡ pick (documented op) true (added op)
  pub wide : (op : ℕ) → op < 256 → is_modelled (full_row_of (256 + op)) ≡ widens op
  pub extends : (key : ℕ) → T (is_modelled (row_of key)) → full_row_of key ≡ row_of key

-- the row pushes a load
abbrev pub is_load : Row → Bool
is_load unmodelled = false
is_load (opaque taken given) = false
is_load aload = true
is_load aload_far = true
is_load (aload_of local) = true
is_load (carries taken places) = false
is_load keeps = false
is_load (gets taken) = false
is_load (calls taken) = false
is_load (puts taken) = false
is_load makes = false

-- "`aload` forms push a slot with local and load index; .. other pushes are opaque"; "`wide aload` marks its slot as `aload` does"
-- (document 02, request 7)
pub record ModelsMark : Type 0 where
  pub document : (key : ℕ) → key < key_count → is_load (row_of key) ≡ one_of (25 ∷ 42 ∷ 43 ∷ 44 ∷ 45 ∷ []) key
  pub full : (key : ℕ) → key < key_count → is_load (full_row_of key) ≡ one_of (25 ∷ 42 ∷ 43 ∷ 44 ∷ 45 ∷ 281 ∷ []) key

-- Document 01's model goes by the opcode alone: at every instruction its row is that of the byte there, and where it models one, so is
-- the length.
abbrev pub ByOpcode : Type 0
ByOpcode =
    (code : List ℕ) → AreBytes code → (pc : ℕ) →
    (row_of (key_at code pc) ≡ row_of (byte_at code pc))
    × (T (is_modelled (row_of (byte_at code pc))) → size_at code pc ≡ fixed_length (byte_at code pc))

-- ---- a depth against what JVMS says

abbrev pub is_dereference : Rule → Bool
is_dereference none = false
is_dereference (fixed depth) = true
is_dereference reads = true
is_dereference writes = true
is_dereference invokes = true

-- the slots above the one that is dereferenced
abbrev pub above_by : Rule → Cited → ℕ
above_by none cited = 0
above_by (fixed depth) cited = depth
above_by reads cited = 0
above_by writes cited = cited.field
above_by invokes cited = cited.args

abbrev pub cites_member : Rule → ℕ → Bool
cites_member none op = true
cites_member (fixed depth) op = true
cites_member reads op = between 178 181 op
cites_member writes op = between 178 181 op
cites_member invokes op = between 182 185 op

-- of the operands that JVMS lists, the first is the one that it names objectref or arrayref, and the others lie above it
pub record DepthAgrees (op : ℕ) (rule : Rule) : Type 0 where
  pub operand : Operand
  pub above : List Operand
  pub listed : operands_of (entry_of op) ≡ operand ∷ above
  pub named : T (is_reference (name_of operand))
  pub single : (cited : Cited) → slots_of cited operand ≡ 1
  pub weighs : (cited : Cited) → slots_in cited above ≡ above_by rule cited
  pub cites : T (cites_member rule op)

abbrev pub DepthsAgree : Type 0
DepthsAgree = (op : ℕ) → op < 256 → T (is_dereference (rule_of op)) → DepthAgrees op (rule_of op)
