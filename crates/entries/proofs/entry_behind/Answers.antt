-- `entries::entry_behind` meets its contract.
-- Assumes nothing.
use Prim.Native.Nat.{ℕ, ◌+◌, ◌≤◌}
use native.Mathlib.Omega.{arith}
use mathlib.Core.Path.{◌≡◌, refl, sym}
use mathlib.Core.Bool.{Bool, true, false}
use mathlib.Core.List.{List}
use lib.Dec.{eqb}
use borrow.Author.Tests.{ne_eqb, eqb-true, eqb-false}
use borrow.Author.Rules.{rules}
use Rattle.basics.specs.Bytes.{u16_at}
use Rattle.classformat.specs.declared.Entry.TheVariants.{Member, Other}
use Rattle.entries.specs.Entries.{entry_behind}
use Rattle.entries.proofs.entry_behind.Goals as goal

-- 10 and 11 are the two kinds of method
method-tag :
    (file : List ℕ) (tag at : ℕ) → 10 ≤ tag → tag ≤ 11 → entry_behind file tag at ≡ Member 1 (u16_at file at) (u16_at file (at + 2))
unfolding entry_behind
method-tag file tag at low high = by (eqb tag 10) refl
  where
    by : (t : Bool) → eqb tag 10 ≡ t → entry_behind file tag at ≡ Member 1 (u16_at file at) (u16_at file (at + 2))
    by true e = rw (eqb-true tag 10 e)
    by false e =
        let ten = eqb-false tag 10 e in
        let eleven : tag ≡ 11 = omega (arith, ten) in
        rw eleven

-- no other tag is one of an entry that is looked at
other_tag :
    (file : List ℕ) (tag at : ℕ) → (tag ≡ 1 → ⊥) → (tag ≡ 7 → ⊥) → (tag ≡ 9 → ⊥) → (tag ≡ 10 → ⊥) → (tag ≡ 11 → ⊥) → (tag ≡ 12 → ⊥) →
    entry_behind file tag at ≡ Other
unfolding entry_behind
other_tag file tag at a b c d e f = rw (ne_eqb tag 1 a, ne_eqb tag 7 b, ne_eqb tag 9 c, ne_eqb tag 10 d, ne_eqb tag 11 e, ne_eqb tag 12 f)

pub returns-in-1 : goal.returns-in-1
unfolding entry_behind
returns-in-1 c = rw (c.in-1.is, ← c.read_u16.ensures.0)

pub returns-in-7 : goal.returns-in-7
unfolding entry_behind
returns-in-7 c = rw (c.in-7.is, ← c.read_u16-in-7.ensures.0)

pub returns-in-9 : goal.returns-in-9
unfolding entry_behind
returns-in-9 c = rw (c.in-9.is, ← c.read_u16-in-9.ensures.0, ← c.read_u16-in-9-2.ensures.0)

pub returns-in-12 : goal.returns-in-12
unfolding entry_behind
returns-in-12 c = rw (c.in-12.is, ← c.read_u16-in-12.ensures.0, ← c.read_u16-in-12-2.ensures.0)

pub returns-in-10 : goal.returns-in-10
returns-in-10 c =
    let a = c.args in
    rw (c.read_u16-in-10.ensures.0, c.read_u16-in-10-2.ensures.0)
    (sym (method-tag a.file.now a.tag a.at (search rules) (search rules)))

pub returns-in_default : goal.returns-in_default
returns-in_default c =
    let a = c.args in
    sym (other_tag a.file.now a.tag a.at (omega arith) (omega arith) (omega arith) (omega arith) (omega arith) (omega arith))

pub returns-in_default-2 : goal.returns-in_default-2
returns-in_default-2 c =
    let a = c.args in
    sym (other_tag a.file.now a.tag a.at (omega arith) (omega arith) (omega arith) (omega arith) (omega arith) (omega arith))
