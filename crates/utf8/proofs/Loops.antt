-- What each loop knows at a place of the text, and one unit further.
-- Assumes nothing.
use Prim.Native.Nat.{ℕ, zero, suc, ◌+◌, ◌≤◌, ◌<◌}
use native.Mathlib.Omega.{arith}
use mathlib.Core.Bool.{true, false}
use mathlib.Core.List.{List, [], ◌++◌, append_assoc, append-nil}
use mathlib.Core.Path.{◌≡◌, refl, ◌∙◌, sym, ap, subst}
use lib.ListN.{length, drop, length-drop, drop_of_length-le}
use lib.Seq.{drop-drop}
use Rattle.text.specs.Writing.{most, Written}
use Rattle.text.proofs.Writing.{written_then, written_none}
use Rattle.utf8.specs.Turning.{size_of, is_modified, turn_of, turned}
use Rattle.utf8.proofs.Laws.{turned_none, turned_more, turned_stops, right_none, right_more, right_stops}

-- ---- judging

-- what is left is right exactly where the whole is
abbrev pub Judged : List ℕ → ℕ → Type 0
Judged text i = is_modified (drop i text) ≡ is_modified text

module _ (text : List ℕ) (i : ℕ) (so_far : Judged text i) where
  pub judged_end : length text ≤ i → true ≡ is_modified text
  judged_end past = sym right_none ∙ ap is_modified (sym (drop_of_length-le text past)) ∙ so_far

  pub judged_wrong : i < length text → size_of (drop i text) ≡ 0 → false ≡ is_modified text
  judged_wrong inside e = sym (right_stops (drop i text) (rw length-drop (omega arith)) e) ∙ so_far

  pub judged_more : (size : ℕ) → size_of (drop i text) ≡ size → (size ≡ 0 → ⊥) → Judged text (i + size)
  judged_more zero e some = absurd (some refl)
  judged_more (suc n) e some = ap is_modified (sym (drop-drop (suc n) i text)) ∙ sym (right_more n (drop i text) e) ∙ so_far

-- ---- turning

-- a text is written, and with what is left it is the whole
pub record SoFar (text : List ℕ) (at : ℕ) (out : List ℕ) (i next : ℕ) (now : List ℕ) : Type 0 where
  pub done : List ℕ
  pub written : Written at done out next now
  pub whole : done ++ turned (drop i text) ≡ turned text

pub at_first : (text : List ℕ) (at : ℕ) (out : List ℕ) → at ≤ most → SoFar text at out 0 at out
at_first text at out low = record { done = []; written = written_none out low; whole = refl }

module _ {text : List ℕ} {at : ℕ} {out : List ℕ} {i next : ℕ} {now : List ℕ} (so_far : SoFar text at out i next now) where
  all_done : turned (drop i text) ≡ [] → Written at (turned text) out next now
  all_done none =
      let same : so_far.done ≡ turned text =
      sym (append-nil so_far.done) ∙ ap (λ (l : List ℕ). so_far.done ++ l) (sym none) ∙ so_far.whole in
      subst (λ (l : List ℕ). Written at l out next now) same so_far.written

  -- no unit starts here
  pub stopped : (turn_of (drop i text)).taken ≡ 0 → Written at (turned text) out next now
  stopped none = all_done (turned_stops (drop i text) none)

  -- the text is at its end
  pub ended : length text ≤ i → Written at (turned text) out next now
  ended past = all_done (ap turned (drop_of_length-le text past) ∙ turned_none)

  -- one unit more
  pub one_more :
      (taken : ℕ) (given : List ℕ) (next' : ℕ) (now' : List ℕ) → length out ≤ most → (turn_of (drop i text)).taken ≡ taken →
      (turn_of (drop i text)).given ≡ given → (taken ≡ 0 → ⊥) → Written next given now next' now' →
      SoFar text at out (i + taken) next' now'
  one_more zero given next' now' short e gives some more = absurd (some refl)
  one_more (suc n) given next' now' short e gives some more =
      record {
        done = so_far.done ++ given;
        written = written_then short so_far.written more;
        whole =
            append_assoc so_far.done given (turned (drop (i + suc n) text))
            ∙ ap (λ (l : List ℕ). so_far.done ++ (given ++ turned l)) (sym (drop-drop (suc n) i text))
            ∙ ap (λ (l : List ℕ). so_far.done ++ (l ++ turned (drop (suc n) (drop i text)))) (sym gives)
            ∙ ap (λ (l : List ℕ). so_far.done ++ l) (sym (turned_more n (drop i text) e))
            ∙ so_far.whole;
      }
