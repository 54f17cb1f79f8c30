-- An opcode with several forms does the same to every stack by each: its forms take and give the same slots.
-- Assumes nothing.
use Prim.Native.Nat.{ℕ}
use mathlib.Core.Path.{◌≡◌, refl, ◌∙◌, sym, ap, subst}
use mathlib.Core.Bool.{Bool, true, false}
use mathlib.Core.Logic.{⊎_elim}
use mathlib.Core.List.Memᴰ
use mathlib.Core.List.{List, [], ◌∷◌, ◌++◌, Memᴰ}
use lib.Dec.{T, eqb}
use borrow.Author.Tests.{eqb-true}
use Rattle.basics.specs.Choice.{pick, one_of}
use Rattle.basics.proofs.Choice.{chosen}
use Rattle.jvms.specs.Machine.{below, topmost, results, replaced}
use Rattle.jvms.specs.Stack.{Form, Entry, unlisted, does, either_of, loads, stores, increments, throws}
use Rattle.jvms.specs.Stack.{Cited, slots_in, entries, entry_of}
use Rattle.jvms.proofs.Entries.{every_entry}

abbrev one_form : Entry → Bool
one_form unlisted = true
one_form (does f) = true
one_form (either_of f others) = false
one_form (loads l f) = true
one_form (stores l f) = true
one_form (increments l f) = true
one_form (throws os) = true

-- pop2, dup_x2, dup2, dup2_x1, dup2_x2
abbrev several : List ℕ
several = 88 ∷ 91 ∷ 92 ∷ 93 ∷ 94 ∷ []

others_one : (op : ℕ) → T (pick (one_of several op) true (one_form (entry_of op)))
unfolding entries entry_of
others_one =
    every_entry (λ op e. pick (one_of several op) true (one_form e)) tt (λ op. chosen T (one_of several op) true true tt tt)

-- ---- a fact of every opcode: of some by themselves, of the others by a test

abbrev AllOf : (ℕ → Type 0) → List ℕ → Type 0
AllOf P [] = Unit {0}
AllOf P (k ∷ ks) = P k × AllOf P ks

known :
    (P : ℕ → Type 0) (ks : List ℕ) (op : ℕ) (rest : Bool) → AllOf P ks → (T rest → P op) →
    T (pick (one_of ks op) true rest) → P op
known P [] op rest all last t = last t
known P (k ∷ ks) op rest all last t = by_test (eqb op k) refl (λ s. known P ks op rest all.1 last s) t
  where
    by_test :
        (b : Bool) → eqb op k ≡ b → (T (pick (one_of ks op) true rest) → P op) →
        T (pick (pick b true (one_of ks op)) true rest) → P op
    by_test true e later t = subst P (sym (eqb-true op k e)) all.0
    by_test false e later t = later t

module _ {Val : Type 0} (cited : Cited) (own : ℕ → Val) where
  -- what forms give of slots, however many there are
  abbrev gives : Form → List Val → List Val
  gives f taken = results cited f.before taken own 0 f.after

  abbrev Alike : List Val → Form → List Form → Type 0
  Alike taken f [] = Unit {0}
  Alike taken f (g ∷ gs) =
      (slots_in cited f.before ≡ slots_in cited g.before) × (gives f taken ≡ gives g taken) × Alike taken f gs

  abbrev AlikeAt : List Val → Entry → Type 0
  AlikeAt taken unlisted = Unit
  AlikeAt taken (does f) = Unit
  AlikeAt taken (either_of f others) = Alike taken f others
  AlikeAt taken (loads l f) = Unit
  AlikeAt taken (stores l f) = Unit
  AlikeAt taken (increments l f) = Unit
  AlikeAt taken (throws os) = Unit

  pop2_alike : (t : List Val) → AlikeAt t (entry_of 88)
  unfolding entries entry_of
  pop2_alike t = (refl, refl, tt)

  dup_x2_alike : (t : List Val) → AlikeAt t (entry_of 91)
  unfolding entries entry_of
  dup_x2_alike [] = (refl, refl, tt)
  dup_x2_alike (u ∷ []) = (refl, refl, tt)
  dup_x2_alike (u ∷ v ∷ []) = (refl, refl, tt)
  dup_x2_alike (u ∷ v ∷ w ∷ t) = (refl, refl, tt)

  dup2_alike : (t : List Val) → AlikeAt t (entry_of 92)
  unfolding entries entry_of
  dup2_alike [] = (refl, refl, tt)
  dup2_alike (v ∷ []) = (refl, refl, tt)
  dup2_alike (v ∷ w ∷ t) = (refl, refl, tt)

  dup2_x1_alike : (t : List Val) → AlikeAt t (entry_of 93)
  unfolding entries entry_of
  dup2_x1_alike [] = (refl, refl, tt)
  dup2_x1_alike (u ∷ []) = (refl, refl, tt)
  dup2_x1_alike (u ∷ v ∷ []) = (refl, refl, tt)
  dup2_x1_alike (u ∷ v ∷ w ∷ t) = (refl, refl, tt)

  dup2_x2_alike : (t : List Val) → AlikeAt t (entry_of 94)
  unfolding entries entry_of
  dup2_x2_alike [] = (refl, refl, (refl, refl, (refl, refl, tt)))
  dup2_x2_alike (s ∷ []) = (refl, refl, (refl, refl, (refl, refl, tt)))
  dup2_x2_alike (s ∷ u ∷ []) = (refl, refl, (refl, refl, (refl, refl, tt)))
  dup2_x2_alike (s ∷ u ∷ v ∷ []) = (refl, refl, (refl, refl, (refl, refl, tt)))
  dup2_x2_alike (s ∷ u ∷ v ∷ w ∷ t) = (refl, refl, (refl, refl, (refl, refl, tt)))

  one_alike : (t : List Val) (e : Entry) → T (one_form e) → AlikeAt t e
  one_alike t unlisted s = tt
  one_alike t (does f) s = tt
  one_alike t (either_of f others) s = absurd s
  one_alike t (loads l f) s = tt
  one_alike t (stores l f) s = tt
  one_alike t (increments l f) s = tt
  one_alike t (throws os) s = tt

  all_alike : (t : List Val) (op : ℕ) → AlikeAt t (entry_of op)
  all_alike t op =
      known (λ k. AlikeAt t (entry_of k)) several op (one_form (entry_of op))
      (pop2_alike t, (dup_x2_alike t, (dup2_alike t, (dup2_x1_alike t, (dup2_x2_alike t, tt)))))
      (one_alike t (entry_of op)) (others_one op)

  each_alike :
      (stack : List Val) (f : Form) (gs : List Form) → Alike (topmost (slots_in cited f.before) stack) f gs →
      (g : Form) → Memᴰ g gs → replaced cited f own stack ≡ replaced cited g own stack
  each_alike stack f [] a g m = absurd (Memᴰ.not-nil m)
  each_alike stack f (h ∷ hs) a g m =
      ⊎_elim
      (λ (e : g ≡ h).
      ap (λ (r : List Val). below (slots_in cited f.before) stack ++ r) a.1
      ∙ ap (λ (k : ℕ). below k stack ++ gives h (topmost k stack)) a.0
      ∙ ap (λ (k : Form). replaced cited k own stack) (sym e))
      (λ (rest : Memᴰ g hs). each_alike stack f hs a.2 g rest)
      (Memᴰ.cases_cons m)

  pub either-form :
      (stack : List Val) (op : ℕ) (f : Form) (others : List Form) → entry_of op ≡ either_of f others →
      (g : Form) → Memᴰ g others → replaced cited f own stack ≡ replaced cited g own stack
  either-form stack op f others e g m =
      each_alike stack f others (rw e at (all_alike (topmost (slots_in cited f.before) stack) op)) g m
