-- Laws of the plain machine: one instruction more, the stack after a form, and that `checkcast` changes nothing.
-- Assumes nothing.
use Prim.Native.Nat.{ℕ, zero, suc, ◌+◌, ◌-◌, ◌≤◌}
use native.Mathlib.Omega.{arith}
use mathlib.Core.Path.{◌≡◌, refl, ◌∙◌, ap}
use mathlib.Core.List.{List, [], ◌∷◌, ◌++◌, append-nil, Memᴰ}
use lib.Dec.{T}
use lib.ListN.{length, take, length-append, length-drop, take-append-drop}
use lib.Seq.{take-append-add, drop-append-add, take_all}
use Rattle.jvms.specs.Extent.{extent_at}
use Rattle.jvms.specs.Machine.{Pool, cited_at, size_of, State, below, topmost, replaced, perform, next, ran}
use Rattle.jvms.specs.Stack.{objectref, reference, Form, ◌⇒◌, Entry, unlisted, does, either_of, loads, stores, increments, throws, Cited}
use Rattle.effects.specs.Agreement.{forms_of, has_form}
use Rattle.truth.specs.Relation.{Setting, own_by}

-- ---- stacks

module _ {Val : Type 0} where
  -- what is taken from the top of a list that lies on another
  depth_over :
      (n : ℕ) (entering above : List Val) → n ≤ length above →
      length (entering ++ above) - n ≡ length entering + (length above - n)
  depth_over n entering above h = omega (arith, length-append entering above)

  pub below_over :
      (n : ℕ) (entering above : List Val) → n ≤ length above → below n (entering ++ above) ≡ entering ++ below n above
  below_over n entering above h = rw (depth_over n entering above h) (take-append-add entering above (length above - n))

  pub topmost_over :
      (n : ℕ) (entering above : List Val) → n ≤ length above → topmost n (entering ++ above) ≡ topmost n above
  topmost_over n entering above h = rw (depth_over n entering above h) (drop-append-add entering above (length above - n))

  pub topmost_length : (n : ℕ) (stack : List Val) → n ≤ length stack → length (topmost n stack) ≡ n
  topmost_length n stack h = omega (arith, length-drop (length stack - n) stack)

  -- taken from the top and put back
  pub checkcast_keeps :
      (cited : Cited) (own : ℕ → Val) (stack : List Val) →
      replaced cited (reference objectref ∷ [] ⇒ reference objectref ∷ []) own stack ≡ stack
  checkcast_keeps cited own stack =
      let few : length (topmost 1 stack) ≤ 1 = omega (arith, length-drop (length stack - 1) stack) in
      ap (λ (l : List Val). below 1 stack ++ l) (append-nil (take 1 (topmost 1 stack)) ∙ take_all 1 (topmost 1 stack) few)
      ∙ take-append-drop (length stack - 1) stack

-- ---- instructions

-- one instruction more
pub ran_next :
    {Val : Type 0} (pool : Pool) (code : List ℕ) (opaque : ℕ → ℕ → Val) (k : ℕ) (st : State Val) →
    ran pool code opaque (suc k) st ≡ next pool code opaque (ran pool code opaque k st)
unfolding ran
ran_next pool code opaque zero st = refl
ran_next pool code opaque (suc k) st = ran_next pool code opaque k (next pool code opaque st)

module _ {A Val : Type 0} (s : Setting A Val) (st : State Val) where
  abbrev pub performed : Entry → State Val
  performed entry = perform (cited_at s.pool s.code st.pc) s.code (s.opaque st.pc) st entry

  -- an instruction that goes on does so by one of its forms
  pub record Acted (entry : Entry) : Type 0 where
    pub form : Form
    pub its : Memᴰ form (forms_of entry)
    pub stack : (performed entry).stack ≡ replaced (cited_at s.pool s.code st.pc) form (own_by s st entry) st.stack
    pub pc : (performed entry).pc ≡ st.pc + size_of (extent_at s.code st.pc)

  pub acted : (entry : Entry) → T (has_form (forms_of entry)) → Acted entry
  acted unlisted t = absurd t
  acted (does f) t = record { form = f; its = Memᴰ.head refl; stack = refl; pc = refl }
  acted (either_of f others) t = record { form = f; its = Memᴰ.head refl; stack = refl; pc = refl }
  acted (loads l f) t = record { form = f; its = Memᴰ.head refl; stack = refl; pc = refl }
  acted (stores l f) t = record { form = f; its = Memᴰ.head refl; stack = refl; pc = refl }
  acted (increments l f) t = record { form = f; its = Memᴰ.head refl; stack = refl; pc = refl }
  acted (throws os) t = absurd t
