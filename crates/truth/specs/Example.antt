-- Condition 3 at work on a block in document 01's model and on two in the full one, so that its premises are seen to be met.
-- Assumes nothing.
use Rattle.std.specs.Prelude.{ℕ, ◌≡◌, List, [], ◌∷◌, length}
use Rattle.jvms.specs.Descriptor.{long, base, class, typed}
use Rattle.jvms.specs.Machine.{Pool, target}
use Rattle.effects.specs.declared.Model.TheVariants.{Document, Full}
use Rattle.walk.specs.Room.{block_walk, answer_of}
use Rattle.walk.specs.declared.Walk.TheVariants.{Failed}
use Rattle.truth.specs.Condition.{Findings, Premises}
use Rattle.truth.specs.Translation.{since, HeldWhen}

-- what both cite. 1: field A.f J; 2: method A.m (La)V;)J
abbrev pub members : List ℕ
members =
    1 ∷ 0 ∷ 1 ∷ 65 ∷ 1 ∷ 102 ∷ 1 ∷ 74
    ∷ 2 ∷ 1 ∷ 1 ∷ 65 ∷ 1 ∷ 109 ∷ 8 ∷ 40 ∷ 76 ∷ 97 ∷ 41 ∷ 86 ∷ 59 ∷ 41 ∷ 74 ∷ []

abbrev pub pool : Pool
pool =
    record {
      field = λ index. base long;
      method = λ index. record { parameters = class (97 ∷ 41 ∷ 86 ∷ []) ∷ []; result = typed (base long) };
    }

-- Document 01's model: aload_0, dup, getfield J, pop2, aload_1, astore_0, aload_1, invokestatic (La)V;)J, pop2, aload_1, and the
-- fault, invokevirtual (La)V;)J. The cause is local 0 as loaded at 0, though a store to local 0 lies between, and though a `)` and a
-- V stand in the name of a parameter's class.
abbrev pub worked : Findings
worked =
    record {
      model = Document;
      code = 0x2a ∷ 0x59 ∷ 0xb4 ∷ 0 ∷ 1 ∷ 0x58 ∷ 0x2b ∷ 0x4b ∷ 0x2b ∷ 0xb8 ∷ 0 ∷ 2 ∷ 0x58 ∷ 0x2b ∷ 0xb6 ∷ 0 ∷ 2 ∷ 0xb1 ∷ [];
      members = members;
      member_count = 2;
      fault = 14;
      leader = 0;
      height = 2;
      count = 10;
      -- the load of local 0 at 0, and that of local 1 at 13
      stack = 1 ∷ 851970 ∷ 0 ∷ 0 ∷ [];
    }

-- The full model (document 02, request 1), on a block with arithmetic, a store and a form of dup that document 01 leaves out, Java's
-- `a.f = (a = b).f = v * v`: aload_0, aload_1, dup, astore_0, lload_2, lload_2, lmul, dup2_x1, putfield J, and the fault, putfield J.
-- The cause is local 0 as loaded at 0, though a store to local 0 lies between.
abbrev pub full_worked : Findings
full_worked =
    record {
      model = Full;
      code = 0x2a ∷ 0x2b ∷ 0x59 ∷ 0x4b ∷ 0x20 ∷ 0x20 ∷ 0x69 ∷ 0x5d ∷ 0xb5 ∷ 0 ∷ 1 ∷ 0xb5 ∷ 0 ∷ 1 ∷ 0xb1 ∷ [];
      members = members;
      member_count = 2;
      fault = 11;
      leader = 0;
      height = 3;
      count = 9;
      -- the load of local 0 at 0, and on it the product, which the fault would write
      stack = 1 ∷ 0 ∷ 0 ∷ 0 ∷ 0 ∷ 0 ∷ [];
    }

-- The full model (document 02, request 7), on a local above 255: wide aload 300, aconst_null, wide astore 300, wide iinc 299 by 1, and
-- the fault, arraylength. The cause is local 300 as loaded at 0, though a store to it lies between.
abbrev pub far_worked : Findings
far_worked =
    record {
      model = Full;
      code = 0xc4 ∷ 0x19 ∷ 1 ∷ 44 ∷ 0x01 ∷ 0xc4 ∷ 0x3a ∷ 1 ∷ 44 ∷ 0xc4 ∷ 0x84 ∷ 1 ∷ 43 ∷ 0 ∷ 1 ∷ 0xbe ∷ 0xb1 ∷ [];
      members = members;
      member_count = 2;
      fault = 15;
      leader = 0;
      height = 1;
      count = 4;
      -- the load of local 300 at 0
      stack = 301 ∷ 0 ∷ [];
    }

abbrev pub PremisesMet : Findings → Type 0
PremisesMet f = Premises f pool

-- whatever the values, what would be dereferenced is what the local held when the instruction at 0 ran
abbrev pub NamedRightly : Findings → ℕ → Type 1
NamedRightly f local =
    (Val : Type 0) (opaque : ℕ → ℕ → Val) (entering : List Val) (locals : ℕ → Val) →
    (v : Val) × (target pool f.code (since pool f.code opaque 0 entering locals f.count) ≡ v ∷ [])
    × HeldWhen (since pool f.code opaque 0 entering locals) f.count 0 local v

-- document 01's model has no name for the second and the third: its walk fails after so many instructions, at the product and at the
-- first `wide`
abbrev pub BeyondDocument : Findings → ℕ → Type 0
BeyondDocument f count =
    answer_of (block_walk f.code f.members f.member_count f.leader f.fault (length f.stack)) ≡ Failed count
