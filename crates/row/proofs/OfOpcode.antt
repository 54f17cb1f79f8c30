-- The row of an opcode in any table, known by computed tests over runs of opcodes.
-- Assumes nothing.
use Prim.Native.Nat.{ℕ, ◌+◌, ◌≤◌, ◌<◌}
use mathlib.Core.Path.{◌≡◌, refl, ◌∙◌, sym, ap}
use mathlib.Core.Bool.{Bool, true}
use mathlib.Core.List.{List, [], ◌∷◌}
use mathlib.Core.Logic.{inl, inr}
use lib.Dec.{T, eqb}
use lib.ListN.{get_or, drop}
use types.Run.{OneOf}
use Rattle.basics.specs.Choice.{pick, both, same_list}
use Rattle.effects.specs.Rows.{Row, unmodelled, opaque, aload, aload_far, aload_of, carries, keeps, gets, calls, puts, makes}
use Rattle.basics.proofs.Every.{both_first, both_second, every, every_from}
use Rattle.basics.proofs.Keys.{Unkeyed, or_key, every_unkeyed}
use Rattle.basics.proofs.Same.{are_same}

abbrev number : Row → List ℕ
number unmodelled = 0 ∷ []
number (opaque takes gives) = 1 ∷ takes ∷ gives ∷ []
number aload = 2 ∷ []
number (aload_of local) = 3 ∷ local ∷ []
number (carries takes places) = 4 ∷ takes ∷ places
number keeps = 5 ∷ []
number (gets takes) = 6 ∷ takes ∷ []
number (calls takes) = 7 ∷ takes ∷ []
number (puts takes) = 8 ∷ takes ∷ []
number makes = 9 ∷ []
number aload_far = 10 ∷ []

abbrev numbered : List ℕ → Row
numbered [] = unmodelled
numbered (k ∷ l) =
    pick (eqb k 1) (opaque (get_or l 0 0) (get_or l 1 0))
    (pick (eqb k 2) aload
    (pick (eqb k 3) (aload_of (get_or l 0 0))
    (pick (eqb k 4) (carries (get_or l 0 0) (drop 1 l))
    (pick (eqb k 5) keeps
    (pick (eqb k 6) (gets (get_or l 0 0))
    (pick (eqb k 7) (calls (get_or l 0 0))
    (pick (eqb k 8) (puts (get_or l 0 0))
    (pick (eqb k 9) makes
    (pick (eqb k 10) aload_far
    unmodelled)))))))))

back : (row : Row) → numbered (number row) ≡ row
back unmodelled = refl
back (opaque takes gives) = refl
back aload = refl
back (aload_of local) = refl
back (carries takes places) = refl
back keeps = refl
back (gets takes) = refl
back (calls takes) = refl
back (puts takes) = refl
back makes = refl
back aload_far = refl

-- rows: a table
module _ (rows : ℕ → Row) where
  abbrev pub is : Row → ℕ → Bool
  is row op = same_list (number row) (number (rows op))

  known : (row : Row) (op : ℕ) → T (is row op) → row ≡ rows op
  known row op t = sym (back row) ∙ ap numbered (are_same (number row) (number (rows op)) t) ∙ back (rows op)

  -- the keys of an arm have one row
  abbrev pub all_are : Row → List ℕ → Bool
  all_are row [] = true
  all_are row (k ∷ ks) = both (is row k) (all_are row ks)

  pub of_keys : (row : Row) (keys : List ℕ) → T (all_are row keys) → (op : ℕ) → OneOf keys op → row ≡ rows op
  of_keys row [] t op o = absurd o
  of_keys row (k ∷ []) t op e = known row k (both_first (is row k) _ t) ∙ ap rows (sym e)
  of_keys row (k ∷ k' ∷ ks) t op (inl e) = known row k (both_first (is row k) _ t) ∙ ap rows (sym e)
  of_keys row (k ∷ k' ∷ ks) t op (inr o) = of_keys row (k' ∷ ks) (both_second (is row k) _ t) op o

  -- n opcodes from a on have the row that a rule gives them
  pub all_have :
      (row : ℕ → Row) (a n : ℕ) → T (every (λ k. is (row (a + k)) (a + k)) n) →
      (op : ℕ) → a ≤ op → op < a + n → row op ≡ rows op
  all_have row a n t op from below = known (row op) op (every_from (λ k. is (row k) k) a n t op from below)

  -- the same where no arm of a match has the opcode as a key; the last arm comes first in the list
  pub all_unkeyed :
      (row : Row) (arms : List (List ℕ)) (a n : ℕ) → T (every (λ k. or_key arms (is row) (a + k)) n) →
      (op : ℕ) → a ≤ op → op < a + n → Unkeyed arms op → row ≡ rows op
  all_unkeyed row arms a n t op from below rest = known row op (every_unkeyed (is row) arms a n t op from below rest)
