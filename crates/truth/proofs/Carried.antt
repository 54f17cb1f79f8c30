-- Slots that are carried along: those that places name, and the values that the same places name.
-- Assumes nothing.
use Prim.Native.Nat.{ℕ, ◌+◌, ◌-◌, ◌≤◌}
use native.Mathlib.Omega.{arith}
use mathlib.Core.Path.{◌≡◌, ◌∙◌, ap, subst}
use mathlib.Core.List.{List, [], ◌∷◌, ◌++◌, map}
use lib.Dec.{T, leb, leb→le}
use lib.ListN.{length, get_or, take, drop}
use lib.Seq.{drop-cons, get_or-drop}
use Rattle.basics.specs.Choice.{between}
use Rattle.basics.specs.Each.{none, one}
use Rattle.basics.proofs.Each.{each_length, each_at}
use Rattle.basics.proofs.Every.{both_first, both_second}
use Rattle.jvms.specs.Machine.{topmost}
use Rattle.effects.specs.Agreement.{within, Carried}
use Rattle.walk.specs.Walk.{placed}
use Rattle.truth.specs.Relation.{Held}
use Rattle.truth.proofs.Machine.{topmost_over, topmost_length}

-- a slot by its number from the top, in a list and as a list of one
nth_slot :
    {A : Type 0} (list : List A) (place : ℕ) (a : A) → 1 ≤ place → place ≤ length list →
    take 1 (drop (length list - place) list) ≡ get_or list (length list - place) a ∷ []
nth_slot list place a some small = ap (take 1) (drop-cons list (length list - place) a (omega arith))

-- among those taken, and among all above the entering stack
nth_taken :
    {Val : Type 0} (t place : ℕ) (entering above : List Val) (absent : Val) → place ≤ t → t ≤ length above →
    get_or (topmost t (entering ++ above)) (length (topmost t (entering ++ above)) - place) absent
    ≡ get_or above (length above - place) absent
nth_taken t place entering above absent small enough =
    let top : topmost t (entering ++ above) ≡ topmost t above = topmost_over t entering above enough in
    let there : length above - t + (length (topmost t above) - place) ≡ length above - place =
    omega (arith, topmost_length t above enough) in
    rw top
    (get_or-drop (length above - t) above (length (topmost t above) - place) absent ∙ ap (λ (k : ℕ). get_or above k absent) there)

module _
    {A Val : Type 0} {Says : A → Val → Type 0} (blank : A) (absent : Val) (entering above : List Val) (list : List A)
    (held : Held Says list above) (t : ℕ) (enough : t ≤ length list) where
  taken_nth : ℕ → Val
  taken_nth place = get_or (topmost t (entering ++ above)) (length (topmost t (entering ++ above)) - place) absent

  held_places : (places : List ℕ) → T (within t places) → Held Says (placed places list) (map taken_nth places)
  unfolding taken_nth
  held_places [] u = none
  held_places (place ∷ places) u =
      let here : T (between 1 t place) = both_first (between 1 t place) _ u in
      let some : 1 ≤ place = leb→le 1 place (both_first (leb 1 place) _ here) in
      let small : place ≤ t = leb→le place t (both_second (leb 1 place) _ here) in
      let size : length list ≡ length above = each_length held in
      let says : Says (get_or list (length list - place) blank) (get_or above (length above - place) absent) =
      subst (λ (n : ℕ). Says (get_or list (length list - place) blank) (get_or above (n - place) absent)) size
      (each_at held (length list - place) (omega arith) blank absent) in
      rw (nth_slot list place blank some (omega arith), nth_taken t place entering above absent small (omega arith))
      (one says (held_places places (both_second (between 1 t place) _ u)))

  pub held_carried :
      (places : List ℕ) → T (within t places) → (put : List Val) → Carried places (topmost t (entering ++ above)) put →
      Held Says (placed places list) put
  unfolding taken_nth
  held_carried places u put e = rw (e absent) (held_places places u)
