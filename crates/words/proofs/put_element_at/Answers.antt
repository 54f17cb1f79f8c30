-- `words::put_element_at` meets its contract. Each arm by its number; what is behind the arms is `short`.
-- Assumes nothing.
use Prim.Native.Nat.{ℕ, zero, suc}
use mathlib.Core.List.{[], ◌∷◌}
use mathlib.Core.Path.{◌≡◌, refl}
use Rattle.basics.specs.Ascii.{ascii}
use Rattle.words.specs.Words.{element_text}
use Rattle.words.specs.declared.Wording.{Wording}
use Rattle.basics.proofs.Keys.{Unkeyed}
use Rattle.words.proofs.put_element_at.Goals as goal

pub returns-in-0 : goal.returns-in-0
unfolding element_text
returns-in-0 c = rw c.in-0.is c.put_at.ensures

pub returns-in-1 : goal.returns-in-1
unfolding element_text
returns-in-1 c = rw c.in-1.is c.put_at-in-1.ensures

pub returns-in-2 : goal.returns-in-2
unfolding element_text
returns-in-2 c = rw c.in-2.is c.put_at-in-2.ensures

pub returns-in-3 : goal.returns-in-3
unfolding element_text
returns-in-3 c = rw c.in-3.is c.put_at-in-3.ensures

pub returns-in-4 : goal.returns-in-4
unfolding element_text
returns-in-4 c = rw c.in-4.is c.put_at-in-4.ensures

pub returns-in-5 : goal.returns-in-5
unfolding element_text
returns-in-5 c = rw c.in-5.is c.put_byte_word_at.ensures

pub returns-in-6 : goal.returns-in-6
unfolding element_text
returns-in-6 c = rw c.in-6.is c.put_at-in-6.ensures

-- the keys of the arms, the last first
short-so :
    (wording : Wording) (k : ℕ) → Unkeyed ((6 ∷ []) ∷ (5 ∷ []) ∷ (4 ∷ []) ∷ (3 ∷ []) ∷ (2 ∷ []) ∷ (1 ∷ []) ∷ (0 ∷ []) ∷ []) k →
    element_text wording k ≡ ascii "short"
unfolding element_text
short-so wording zero rest = absurd (rest.0.0.0.0.0.0.1 refl)
short-so wording (suc zero) rest = absurd (rest.0.0.0.0.0.1 refl)
short-so wording (suc (suc zero)) rest = absurd (rest.0.0.0.0.1 refl)
short-so wording (suc (suc (suc zero))) rest = absurd (rest.0.0.0.1 refl)
short-so wording (suc (suc (suc (suc zero)))) rest = absurd (rest.0.0.1 refl)
short-so wording (suc (suc (suc (suc (suc zero))))) rest = absurd (rest.0.1 refl)
short-so wording (suc (suc (suc (suc (suc (suc zero)))))) rest = absurd (rest.1 refl)
short-so wording (suc (suc (suc (suc (suc (suc (suc k))))))) rest = refl

pub returns-in_default : goal.returns-in_default
returns-in_default c =
    let a = c.args in
    rw (short-so a.wording a.element c.in_default.in_default-own.rest) c.put_at-in_default.ensures
