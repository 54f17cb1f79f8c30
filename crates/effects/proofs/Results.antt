-- The machine's results where no result has an operand's name, and where each has one: a test on numbers tells which operand
-- each result is, for values of any type.
-- Assumes nothing.
use Prim.Native.Nat.{ℕ, zero, suc, ◌+◌, ◌-◌, ◌≤◌}
use native.Mathlib.Nat.{zero-add, add-zero, suc-add, add-suc}
use native.Mathlib.Omega.{arith}
use mathlib.Core.Path.{◌≡◌, refl, ◌∙◌, sym, ap, ap₂}
use mathlib.Core.Bool.{Bool, true, false}
use mathlib.Core.List.{List, [], ◌∷◌, ◌++◌, map, map-append}
use lib.Dec.{T}
use lib.ListN.{length, take, drop, get_or}
use lib.Seq.{drop-cons, drop-length}
use Rattle.basics.specs.Choice.{pick, both, same_list}
use Rattle.basics.proofs.Every.{both_first, both_second}
use Rattle.basics.proofs.Same.{are_same}
use Rattle.jvms.specs.Machine.{bears, run, slots_named, results}
use Rattle.jvms.specs.Stack.{Name, Operand, int, long, float, double, reference, category1, category2, field, parameters, returned, dimensions, Cited, slots_of, slots_in, name_of, same_name}
use Rattle.effects.specs.Agreement.{Carried}
use Rattle.effects.proofs.Weights.{cites}

-- ---- no result has an operand's name

abbrev pub none_borne : List Operand → List Operand → Bool
none_borne before [] = true
none_borne before (o ∷ os) = pick (bears (name_of o) before) false (none_borne before os)

module _ {Val : Type 0} where
  run_more : (m n k : ℕ) (f : ℕ → Val) → run (m + n) k f ≡ run m k f ++ run n (k + m) f
  run_more zero n k f = ap₂ (λ (i j : ℕ). run i j f) (zero-add n) (sym (add-zero k))
  run_more (suc m) n k f =
      ap (λ (i : ℕ). run i k f) (suc-add m n)
      ∙ ap (λ (l : List Val). f k ∷ l)
      (run_more m n (suc k) f ∙ ap (λ (i : ℕ). run m (suc k) f ++ run n i f) (suc-add k m ∙ sym (add-suc k m)))

  -- they are the instruction's own, one behind the other
  pub own_results :
      (c : Cited) (before : List Operand) (taken : List Val) (own : ℕ → Val) (k : ℕ) (after : List Operand) →
      T (none_borne before after) → results c before taken own k after ≡ run (slots_in c after) k own
  own_results c before taken own k [] t = refl
  own_results c before taken own k (o ∷ os) t =
      by_test (bears (name_of o) before) (own_results c before taken own (k + slots_of c o) os) t
    where
      rest : List Val
      rest = results c before taken own (k + slots_of c o) os

      by_test :
          (b : Bool) → (T (none_borne before os) → rest ≡ run (slots_in c os) (k + slots_of c o) own) →
          T (pick b false (none_borne before os)) →
          pick b (slots_named c (name_of o) before taken) (run (slots_of c o) k own) ++ rest
          ≡ run (slots_of c o + slots_in c os) k own
      by_test true more u = absurd u
      by_test false more u =
          ap (λ (l : List Val). run (slots_of c o) k own ++ l) (more u) ∙ sym (run_more (slots_of c o) (slots_in c os) k own)

-- ---- each result has an operand's name

abbrev pub all_borne : List Operand → List Operand → Bool
all_borne before [] = true
all_borne before (o ∷ os) = pick (bears (name_of o) before) (all_borne before os) false

-- the slots of an operand are those of no member
abbrev settled : Operand → Bool
settled (int n) = true
settled (long n) = true
settled (float n) = true
settled (double n) = true
settled (reference n) = true
settled (category1 n) = true
settled (category2 n) = true
settled (field n) = false
settled (parameters n) = false
settled (returned n) = false
settled (dimensions n) = false

abbrev pub all_settled : List Operand → Bool
all_settled [] = true
all_settled (o ∷ os) = both (settled o) (all_settled os)

settled_slots : (c d : Cited) (o : Operand) → T (settled o) → slots_of c o ≡ slots_of d o
settled_slots c d (int n) t = refl
settled_slots c d (long n) t = refl
settled_slots c d (float n) t = refl
settled_slots c d (double n) t = refl
settled_slots c d (reference n) t = refl
settled_slots c d (category1 n) t = refl
settled_slots c d (category2 n) t = refl
settled_slots c d (field n) t = absurd t
settled_slots c d (parameters n) t = absurd t
settled_slots c d (returned n) t = absurd t
settled_slots c d (dimensions n) t = absurd t

-- to replace each value by another and to take the results: the order of the two does not matter
module _ {A B : Type 0} (f : A → B) (c d : Cited) where
  take_map : (n : ℕ) (xs : List A) → take n (map f xs) ≡ map f (take n xs)
  take_map zero xs = refl
  take_map (suc n) [] = refl
  take_map (suc n) (x ∷ xs) = ap (λ (l : List B). f x ∷ l) (take_map n xs)

  drop_map : (n : ℕ) (xs : List A) → drop n (map f xs) ≡ map f (drop n xs)
  drop_map zero xs = refl
  drop_map (suc n) [] = refl
  drop_map (suc n) (x ∷ xs) = drop_map n xs

  pick_map :
      (b : Bool) (xs ys : List B) (xs' ys' : List A) → xs ≡ map f xs' → ys ≡ map f ys' → pick b xs ys ≡ map f (pick b xs' ys')
  pick_map true xs ys xs' ys' e g = e
  pick_map false xs ys xs' ys' e g = g

  named_map :
      (name : Name) (os : List Operand) (taken : List A) → T (all_settled os) →
      slots_named d name os (map f taken) ≡ map f (slots_named c name os taken)
  named_map name [] taken t = refl
  named_map name (o ∷ os) taken t =
      let n : ℕ = slots_of c o in
      let same : slots_of d o ≡ n = settled_slots d c o (both_first (settled o) (all_settled os) t) in
      let rest = named_map name os (drop n taken) (both_second (settled o) (all_settled os) t) in
      rw same
      (pick_map (same_name name (name_of o)) _ _ (take n taken) (slots_named c name os (drop n taken)) (take_map n taken)
      (ap (slots_named d name os) (drop_map n taken) ∙ rest))

  results_map :
      (before : List Operand) (taken : List A) (own : ℕ → A) (k : ℕ) (own' : ℕ → B) (k' : ℕ) (after : List Operand) →
      T (all_settled before) → T (all_borne before after) →
      results d before (map f taken) own' k' after ≡ map f (results c before taken own k after)
  results_map before taken own k own' k' [] s t = refl
  results_map before taken own k own' k' (o ∷ os) s t =
      by_test (bears (name_of o) before) (results_map before taken own (k + slots_of c o) own' (k' + slots_of d o) os s) t
    where
      rest : List A
      rest = results c before taken own (k + slots_of c o) os

      rest' : List B
      rest' = results d before (map f taken) own' (k' + slots_of d o) os

      by_test :
          (b : Bool) → (T (all_borne before os) → rest' ≡ map f rest) → T (pick b (all_borne before os) false) →
          pick b (slots_named d (name_of o) before (map f taken)) (run (slots_of d o) k' own') ++ rest'
          ≡ map f (pick b (slots_named c (name_of o) before taken) (run (slots_of c o) k own) ++ rest)
      by_test true same u =
          ap₂ ◌++◌ (named_map (name_of o) before taken s) (same u)
          ∙ sym (map-append f (slots_named c (name_of o) before taken) rest)
      by_test false same u = absurd u

-- so many slots, each the number that it has from the top
abbrev pub from_top : ℕ → List ℕ
from_top zero = []
from_top (suc n) = suc n ∷ from_top n

module _ {Val : Type 0} (taken : List Val) (absent : Val) where
  -- the slot with a number from the top
  abbrev nth : ℕ → Val
  nth place = get_or taken (length taken - place) absent

  top_slots : (n : ℕ) → n ≤ length taken → map nth (from_top n) ≡ drop (length taken - n) taken
  top_slots zero h = let all : length taken - 0 ≡ length taken = omega arith in rw all (sym (drop-length taken))
  top_slots (suc n) h =
      let k : ℕ = length taken - suc n in
      let further : length taken - n ≡ suc k = omega arith in
      ap (λ (l : List Val). nth (suc n) ∷ l) (top_slots n (omega arith) ∙ ap (λ (i : ℕ). drop i taken) further)
      ∙ sym (drop-cons taken k absent (omega arith))

  all_slots : map nth (from_top (length taken)) ≡ taken
  all_slots =
      let none : length taken - length taken ≡ 0 = omega arith in
      top_slots (length taken) (omega arith) ∙ ap (λ (k : ℕ). drop k taken) none

-- the places that the results have among t slots, on numbers
abbrev pub places_are : List Operand → List Operand → ℕ → List ℕ → Bool
places_are before after t places =
    both (all_settled before)
    (both (all_borne before after) (same_list (results (cites 0 0 0 0) before (from_top t) (λ k. k) 0 after) places))

-- and so on values of any type
pub carried_results :
    {Val : Type 0} (c : Cited) (before after : List Operand) (taken : List Val) (own : ℕ → Val) (places : List ℕ) →
    T (places_are before after (length taken) places) → Carried places taken (results c before taken own 0 after)
carried_results c before after taken own places t absent =
    let t1 = both_second (all_settled before) _ t in
    let numbers : List ℕ = results (cites 0 0 0 0) before (from_top (length taken)) (λ k. k) 0 after in
    ap (λ (l : List _). results c before l own 0 after) (sym (all_slots taken absent))
    ∙ results_map (nth taken absent) (cites 0 0 0 0) c before (from_top (length taken)) (λ k. k) 0 own 0 after
    (both_first (all_settled before) _ t) (both_first (all_borne before after) _ t1)
    ∙ ap (map (nth taken absent)) (are_same numbers places (both_second (all_borne before after) _ t1))
