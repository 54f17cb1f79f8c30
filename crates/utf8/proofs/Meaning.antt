-- Judging and turning mean what is declared of code units, characters and their bytes.
-- Rests on: the laws from unit to unit (Laws), one unit (Forms), two surrogates (Pairs), the way back (Reading), sizes (Sizes).
-- Assumes nothing.
use Prim.Native.Nat.{ℕ, zero, suc, ◌≤◌, ◌<◌}
use native.Mathlib.Omega.{arith}
use mathlib.Core.Bool.{Bool, true, false}
use mathlib.Core.List.{List, [], ◌∷◌, ◌++◌}
use mathlib.Core.Path.{◌≡◌, refl, ◌∙◌, sym, ap, ap₂, subst}
use lib.Dec.{T}
use lib.ListN.{length, drop, length-append, length-drop}
use lib.Seq.{drop-append_seam}
use Rattle.basics.specs.Choice.{pick, both}
use Rattle.basics.proofs.Every.{both_first, both_second}
use Rattle.utf8.specs.Turning.{is_modified, turn_of, go_on, turned_by, turned}
use Rattle.utf8.specs.Units.{unit_bytes, modified, point_bytes, utf8, leads, trails, alone, points, Units, none, more, TextDeclared}
use Rattle.utf8.proofs.Ranges.{from_low, to_high}
use Rattle.utf8.proofs.Forms.{one_at_least, size_unit, turn_alone}
use Rattle.utf8.proofs.Laws.{turned_none, turned_more, right_none, right_more}
use Rattle.utf8.proofs.Pairs.{character, turn_pair, behind_pair, starts_trail, trail_start}
use Rattle.utf8.proofs.Reading.{units_of}
use Rattle.utf8.proofs.Sizes.{turn_fits}

-- what follows the bytes of a unit
behind_unit : (u n : ℕ) (rest : List ℕ) → length (unit_bytes u) ≡ suc n → drop (suc n) (unit_bytes u ++ rest) ≡ rest
behind_unit u n rest e = subst (λ (m : ℕ). drop m (unit_bytes u ++ rest) ≡ rest) e (drop-append_seam (unit_bytes u) rest)

-- ---- judging

right_units : (units : List ℕ) → Units units → is_modified (modified units) ≡ true
unfolding modified
right_units [] none = right_none
right_units (u ∷ units) (more high rest) =
    let n = one_at_least u high in
    right_more n.0 (unit_bytes u ++ modified units) (size_unit (modified units) u high ∙ n.1)
    ∙ ap is_modified (behind_unit u n.0 (modified units) n.1)
    ∙ right_units units rest

-- ---- turning

turned_alone :
    (u : ℕ) (units : List ℕ) → u < 65536 → Units units → both (leads u) (starts_trail units) ≡ false →
    turned (unit_bytes u ++ modified units) ≡ point_bytes (alone u) ++ turned (modified units)
turned_alone u units high are lone =
    let n = one_at_least u high in
    let first = turn_alone (modified units) u high (λ e. trail_start units are ∙ (rw e at lone)) in
    turned_more n.0 (unit_bytes u ++ modified units) (ap (λ t. t.taken) first ∙ n.1)
    ∙ ap₂ (λ (l m : List ℕ). l ++ turned m) (ap (λ t. t.given) first) (behind_unit u n.0 (modified units) n.1)

turned_pair :
    (u v : ℕ) (rest : List ℕ) → T (both (leads u) (trails v)) →
    turned (unit_bytes u ++ (unit_bytes v ++ rest)) ≡ point_bytes (character u v) ++ turned rest
turned_pair u v rest t =
    let s = both_first (leads u) (trails v) t in
    let r = both_second (leads u) (trails v) t in
    let a = from_low 55296 56319 u s in
    let b = to_high 55296 56319 u s in
    let c = from_low 56320 57343 v r in
    let d = to_high 56320 57343 v r in
    let first = turn_pair u v a b c d rest in
    turned_more 5 (unit_bytes u ++ (unit_bytes v ++ rest)) (ap (λ t. t.taken) first)
    ∙ ap₂ (λ (l m : List ℕ). l ++ turned m) (ap (λ t. t.given) first) (behind_pair u v a b c d rest)

turned_units : (units : List ℕ) → Units units → turned (modified units) ≡ utf8 (points units)
unfolding modified utf8 points
turned_units [] none = turned_none
turned_units (u ∷ []) (more high none) =
    turned_alone u [] high none (none_follows (leads u)) ∙ ap (λ (l : List ℕ). point_bytes (alone u) ++ l) turned_none
  where
    none_follows : (b : Bool) → both b false ≡ false
    none_follows true = refl
    none_follows false = refl
turned_units (u ∷ (v ∷ units)) (more high (more low rest)) =
    by_pair (both (leads u) (trails v)) refl (turned_units units rest) (turned_units (v ∷ units) (more low rest))
  where
    by_pair :
        (t : Bool) → both (leads u) (trails v) ≡ t → turned (modified units) ≡ utf8 (points units) →
        turned (modified (v ∷ units)) ≡ utf8 (points (v ∷ units)) →
        turned (unit_bytes u ++ (unit_bytes v ++ modified units))
        ≡ utf8 (pick t (character u v ∷ points units) (alone u ∷ points (v ∷ units)))
    by_pair true e behind next =
        turned_pair u v (modified units) (subst T (sym e) tt) ∙ ap (λ (l : List ℕ). point_bytes (character u v) ++ l) behind
    by_pair false e behind next =
        turned_alone u (v ∷ units) high (more low rest) e ∙ ap (λ (l : List ℕ). point_bytes (alone u) ++ l) next

-- ---- no text grows

turned_short : (k : ℕ) (bytes : List ℕ) → length (turned_by k bytes) ≤ length bytes
unfolding turned_by
turned_short zero bytes = omega arith
turned_short (suc k) bytes = by_taken (turn_of bytes).taken refl (λ list. turned_short k list)
  where
    by_taken :
        (n : ℕ) → (turn_of bytes).taken ≡ n → ((list : List ℕ) → length (turned_by k list) ≤ length list) →
        length (go_on n (λ taken. (turn_of bytes).given ++ turned_by k (drop taken bytes))) ≤ length bytes
    by_taken zero e onward = omega arith
    by_taken (suc n) e onward =
        rw length-append (omega (arith, onward (drop (suc n) bytes), length-drop (suc n) bytes, turn_fits bytes, e))

-- ---- the statements

pub text_declared : TextDeclared
unfolding turned is_modified
text_declared =
    record {
      right = right_units;
      only = λ text right. units_of (length text) text (subst T (sym right) tt);
      turns = turned_units;
      shorter = λ text. turned_short (length text) text;
    }
