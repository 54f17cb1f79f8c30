-- What the table of entries says of loads and stores: of how many slots they are and which local they name. Each fact about
-- opcodes is one computed test.
-- Assumes nothing.
use Prim.Native.Nat.{ℕ, zero, suc, ◌-◌, ◌%◌, ◌≤◌}
use native.Mathlib.Omega.{arith}
use native.Mathlib.Nat.{add-zero, le_of_suc-le-suc, not-suc-le-zero}
use mathlib.Core.Path.{◌≡◌, refl, ◌∙◌, sym, ap, subst}
use mathlib.Core.Bool.{Bool, true, false}
use mathlib.Core.List.{List, [], ◌∷◌}
use lib.Dec.{T, eqb, leb, ltb, eqb→eq, leb→le}
use lib.ListN.{length}
use borrow.Author.Tests.{eqb-true, le-leb, le-ltb, ltb-true, ltb-false}
use Rattle.basics.specs.Choice.{pick, both, alike, one_of}
use Rattle.basics.proofs.Every.{both_first, both_second, alike_is, every, every_at}
use Rattle.jvms.specs.Laws.{one_slot_loads, two_slot_loads, one_slot_stores, two_slot_stores, local_named}
use Rattle.jvms.specs.Machine.{local_at}
use Rattle.jvms.specs.Stack.{Operand, int, long, float, double, reference, category1, category2, field, parameters}
use Rattle.jvms.specs.Stack.{Local, indexed, far, numbered, Entry, unlisted, does, either_of, loads, stores, increments, throws}
use Rattle.jvms.specs.Stack.{returned, dimensions, Cited, slots_of, slots_in, entries, entry_in, widened, key_at, key_count, entry_of}

-- ---- tests at the opcodes of a list, and at every entry of the table

-- the test passes at each number of the list
abbrev all : (ℕ → Bool) → List ℕ → Bool
all test [] = true
all test (op ∷ ops) = both (test op) (all test ops)

all_at : (test : ℕ → Bool) (ops : List ℕ) → T (all test ops) → (op : ℕ) → T (one_of ops op) → T (test op)
all_at test [] t op among = absurd among
all_at test (x ∷ ops) t op among =
    by_head (eqb op x) refl among (all_at test ops (both_second (test x) (all test ops) t) op)
  where
    by_head : (b : Bool) → eqb op x ≡ b → T (pick b true (one_of ops op)) → (T (one_of ops op) → T (test op)) → T (test op)
    by_head true e u rest = subst (λ (k : ℕ). T (test k)) (sym (eqb-true op x e)) (both_first (test x) (all test ops) t)
    by_head false e u rest = rest u

-- past the end of a table there is no entry
past : (es : List Entry) (op : ℕ) → length es ≤ op → entry_in es op ≡ unlisted
past [] op h = refl
past (e ∷ es) zero h = absurd (not-suc-le-zero h)
past (e ∷ es) (suc op) h = past es op (le_of_suc-le-suc h)

unlisted_behind : (key : ℕ) → key_count ≤ key → entry_of key ≡ unlisted
unfolding entries entry_of
unlisted_behind key h =
    rw (le-ltb key 256 (omega arith)) (ap widened (past entries (key - 256) (omega arith)))

-- a test of key and entry that passes in the table, and at a key that has no entry
pub every_entry :
    (test : ℕ → Entry → Bool) → T (every (λ key. test key (entry_of key)) key_count) → ((key : ℕ) → T (test key unlisted)) →
    (key : ℕ) → T (test key (entry_of key))
every_entry test t none key = by_place (ltb key key_count) refl
  where
    by_place : (b : Bool) → ltb key key_count ≡ b → T (test key (entry_of key))
    by_place true e = every_at (λ k. test k (entry_of k)) key_count t key (ltb-true key key_count e)
    by_place false e = rw (unlisted_behind key (ltb-false key key_count e)) (none key)

-- ---- slots that no cited member changes

abbrev weighs : ℕ → Operand → Bool
weighs slots (int n) = eqb 1 slots
weighs slots (long n) = eqb 2 slots
weighs slots (float n) = eqb 1 slots
weighs slots (double n) = eqb 2 slots
weighs slots (reference n) = eqb 1 slots
weighs slots (category1 n) = eqb 1 slots
weighs slots (category2 n) = eqb 2 slots
weighs slots (field n) = false
weighs slots (parameters n) = false
weighs slots (returned n) = false
weighs slots (dimensions n) = false

pub weighed : (cited : Cited) (slots : ℕ) (o : Operand) → T (weighs slots o) → slots_of cited o ≡ slots
weighed cited slots (int n) t = eqb→eq 1 slots t
weighed cited slots (long n) t = eqb→eq 2 slots t
weighed cited slots (float n) t = eqb→eq 1 slots t
weighed cited slots (double n) t = eqb→eq 2 slots t
weighed cited slots (reference n) t = eqb→eq 1 slots t
weighed cited slots (category1 n) t = eqb→eq 1 slots t
weighed cited slots (category2 n) t = eqb→eq 2 slots t
weighed cited slots (field n) t = absurd t
weighed cited slots (parameters n) t = absurd t
weighed cited slots (returned n) t = absurd t
weighed cited slots (dimensions n) t = absurd t

-- one operand, of so many slots
abbrev pub single : ℕ → List Operand → Bool
single slots [] = false
single slots (o ∷ []) = weighs slots o
single slots (o ∷ p ∷ os) = false

pub single_slots : (cited : Cited) (slots : ℕ) (os : List Operand) → T (single slots os) → slots_in cited os ≡ slots
single_slots cited slots [] t = absurd t
single_slots cited slots (o ∷ []) t = add-zero (slots_of cited o) ∙ weighed cited slots o t
single_slots cited slots (o ∷ p ∷ os) t = absurd t

abbrev pub is_none : List Operand → Bool
is_none [] = true
is_none (o ∷ os) = false

pub none_is : (os : List Operand) → T (is_none os) → os ≡ []
none_is [] t = refl
none_is (o ∷ os) t = absurd t

-- ---- which local

-- after `wide` by two bytes; else by the byte behind the opcode up to the last opcode that has one, above it by the number in the name
abbrev pub names : ℕ → Local → ℕ → Bool
names last far key = leb 256 key
names last indexed key = both (alike (leb 256 key) false) (leb key last)
names last (numbered n) key =
    both (alike (leb 256 key) false) (both (alike (leb key last) false) (eqb n ((key - suc last) % 4)))

pub named :
    (last : ℕ) (l : Local) (code : List ℕ) (pc : ℕ) → T (names last l (key_at code pc)) →
    local_at code pc l ≡ local_named last code pc
named last far code pc t = rw (le-leb 256 (key_at code pc) (leb→le 256 (key_at code pc) t))
named last indexed code pc t =
    let key = key_at code pc in
    let near = both_first (alike (leb 256 key) false) (leb key last) t in
    let early = both_second (alike (leb 256 key) false) (leb key last) t in
    rw (alike_is (leb 256 key) false near, le-leb key last (leb→le key last early))
named last (numbered n) code pc t =
    let key = key_at code pc in
    let rest : Bool = both (alike (leb key last) false) (eqb n ((key - suc last) % 4)) in
    let near = both_first (alike (leb 256 key) false) rest t in
    let later = both_second (alike (leb 256 key) false) rest t in
    let above = both_first (alike (leb key last) false) (eqb n ((key - suc last) % 4)) later in
    let number = both_second (alike (leb key last) false) (eqb n ((key - suc last) % 4)) later in
    rw (alike_is (leb 256 key) false near, alike_is (leb key last) false above) (eqb→eq n ((key - suc last) % 4) number)

-- ---- stores and loads

-- one operand goes into the local and nothing is left; the last store with a byte behind it is astore, 58
abbrev pub is_store : ℕ → ℕ → Entry → Bool
is_store slots op unlisted = false
is_store slots op (does f) = false
is_store slots op (either_of f others) = false
is_store slots op (loads l f) = false
is_store slots op (stores l f) = both (names 58 l op) (both (single slots f.before) (is_none f.after))
is_store slots op (increments l f) = false
is_store slots op (throws os) = false

-- nothing is taken and one result comes from the local; the last load with a byte behind it is aload, 25
abbrev pub is_load : ℕ → ℕ → Entry → Bool
is_load slots op unlisted = false
is_load slots op (does f) = false
is_load slots op (either_of f others) = false
is_load slots op (loads l f) = both (names 25 l op) (both (is_none f.before) (single slots f.after))
is_load slots op (stores l f) = false
is_load slots op (increments l f) = false
is_load slots op (throws os) = false

pub one-slot-stores : (op : ℕ) → T (one_of one_slot_stores op) → T (is_store 1 op (entry_of op))
unfolding entries entry_of
one-slot-stores = all_at (λ op. is_store 1 op (entry_of op)) one_slot_stores tt

pub two-slot-stores : (op : ℕ) → T (one_of two_slot_stores op) → T (is_store 2 op (entry_of op))
unfolding entries entry_of
two-slot-stores = all_at (λ op. is_store 2 op (entry_of op)) two_slot_stores tt

pub one-slot-loads : (op : ℕ) → T (one_of one_slot_loads op) → T (is_load 1 op (entry_of op))
unfolding entries entry_of
one-slot-loads = all_at (λ op. is_load 1 op (entry_of op)) one_slot_loads tt

pub two-slot-loads : (op : ℕ) → T (one_of two_slot_loads op) → T (is_load 2 op (entry_of op))
unfolding entries entry_of
two-slot-loads = all_at (λ op. is_load 2 op (entry_of op)) two_slot_loads tt
