-- A text of a class file and what it turns to are alike: a unit of one byte stays, and any other turns to bytes that are strange too.
-- Assumes nothing.
use Prim.Native.Nat.{ℕ, ◌+◌, ◌/◌, ◌%◌, ◌≤◌, ◌<◌}
use native.Mathlib.Omega.{arith}
use mathlib.Core.Bool.{true}
use mathlib.Core.List.{List, [], ◌∷◌, ◌++◌, append_assoc}
use mathlib.Core.Path.{◌≡◌, sym, subst}
use lib.Dec.{T, ltb}
use borrow.Author.Tests.{lt-ltb, le-ltb}
use Rattle.basics.specs.Choice.{pick, both, between}
use Rattle.basics.proofs.Choice.{chosen}
use Rattle.basics.proofs.Every.{both_first, both_second}
use Rattle.utf8.specs.Turning.{is_modified, turned}
use Rattle.utf8.specs.Units.{unit_bytes, modified, point_bytes, utf8, leads, trails, alone, points, Units, none, more}
use Rattle.utf8.proofs.Ranges.{below, from_low, to_high, chosen_if}
use Rattle.utf8.proofs.Forms.{Form, single, null, double, triple, form, three}
use Rattle.utf8.proofs.Pairs.{character}
use Rattle.utf8.proofs.Meaning.{text_declared}
use Rattle.unturned.proofs.Alike.{Strange, Strangers, only_one, one_more, Alike, both_end, same_byte, strange_runs}

-- ---- bytes that are strange

high : (x : ℕ) → 128 ≤ x → Strange x
high x large asked low small e = omega (arith, large, small, e)

joined : {run other : List ℕ} → Strangers run → Strangers other → Strangers (run ++ other)
joined (only_one s) others = one_more s others
joined (one_more s rest) others = one_more s (joined rest others)

two_high : (x y : ℕ) → 128 ≤ x → 128 ≤ y → Strangers (x ∷ y ∷ [])
two_high x y a b = one_more (high x a) (only_one (high y b))

three_high : (x y z : ℕ) → 128 ≤ x → 128 ≤ y → 128 ≤ z → Strangers (x ∷ y ∷ z ∷ [])
three_high x y z a b c = one_more (high x a) (two_high y z b c)

-- a character from 80 on has no other bytes in UTF-8
strange_point : (p : ℕ) → 128 ≤ p → Strangers (point_bytes p)
unfolding point_bytes
strange_point p large =
    rw (le-ltb p 128 large)
    (chosen Strangers (ltb p 2048) ((192 + p / 64) ∷ (128 + p % 64) ∷ []) (longer p)
    (two_high (192 + p / 64) (128 + p % 64) (omega arith) (omega arith))
    (chosen Strangers (ltb p 65536) ((224 + p / 4096) ∷ (128 + p / 64 % 64) ∷ (128 + p % 64) ∷ []) (longest p)
    (three_high (224 + p / 4096) (128 + p / 64 % 64) (128 + p % 64) (omega arith) (omega arith) (omega arith))
    (one_more (high (240 + p / 262144) (omega arith))
    (three_high (128 + p / 4096 % 64) (128 + p / 64 % 64) (128 + p % 64) (omega arith) (omega arith) (omega arith)))))
  where
    longest : ℕ → List ℕ
    longest p = (240 + p / 262144) ∷ (128 + p / 4096 % 64) ∷ (128 + p / 64 % 64) ∷ (128 + p % 64) ∷ []

    longer : ℕ → List ℕ
    longer p = pick (ltb p 65536) ((224 + p / 4096) ∷ (128 + p / 64 % 64) ∷ (128 + p % 64) ∷ []) (longest p)

-- a unit of three bytes
strange_three : (u : ℕ) → 2048 ≤ u → u < 65536 → Strangers (unit_bytes u)
strange_three u low small =
    rw (three u low small)
    (three_high (224 + u / 4096) (128 + u / 64 % 64) (128 + u % 64) (omega arith) (omega arith) (omega arith))

-- a unit that is no half of a pair, from 80 on
large_alone : (u : ℕ) → 128 ≤ u → 128 ≤ alone u
large_alone u large = chosen (λ (p : ℕ). 128 ≤ p) (between 55296 57343 u) 65533 u (omega arith) large

-- ---- units

module _ {text turned : List ℕ} (alike : Alike text turned) where
  alike_unit : (u : ℕ) → u < 65536 → Alike (unit_bytes u ++ text) (point_bytes (alone u) ++ turned)
  unfolding point_bytes
  alike_unit u small = of (form u small)
    where
      of : Form u → Alike (unit_bytes u ++ text) (point_bytes (alone u) ++ turned)
      of (single a b is) = rw (is, below 55296 57343 u (omega arith), lt-ltb u 128 (omega arith)) (same_byte alike)
      of (null z is) = rw (is, z) (strange_runs (two_high 192 128 (omega arith) (omega arith)) (only_one zero_strange) alike)
        where
          zero_strange : Strange 0
          zero_strange asked low small e = omega (arith, low, e)
      of (double a b is) =
          let run : Strangers (unit_bytes u) = rw is (two_high (192 + u / 64) (128 + u % 64) (omega arith) (omega arith)) in
          strange_runs run (strange_point (alone u) (large_alone u a)) alike
      of (triple a b is) =
          strange_runs (strange_three u a b) (strange_point (alone u) (large_alone u (omega arith))) alike

  alike_pair :
      (u v : ℕ) → T (both (leads u) (trails v)) → Alike (unit_bytes u ++ (unit_bytes v ++ text)) (point_bytes (character u v) ++ turned)
  alike_pair u v t =
      let s = both_first (leads u) (trails v) t in
      let r = both_second (leads u) (trails v) t in
      let a = from_low 55296 56319 u s in
      let b = to_high 55296 56319 u s in
      let c = from_low 56320 57343 v r in
      let d = to_high 56320 57343 v r in
      subst (λ (l : List ℕ). Alike l (point_bytes (character u v) ++ turned)) (append_assoc (unit_bytes u) (unit_bytes v) text)
      (strange_runs
      (joined (strange_three u (omega arith) (omega arith)) (strange_three v (omega arith) (omega arith)))
      (strange_point (character u v) (omega arith)) alike)

alike_units : (units : List ℕ) → Units units → Alike (modified units) (utf8 (points units))
unfolding modified utf8 points
alike_units [] none = both_end
alike_units (u ∷ []) (more small none) = alike_unit both_end u small
alike_units (u ∷ (v ∷ units)) (more small (more low rest)) =
    chosen_if (λ (ps : List ℕ). Alike (unit_bytes u ++ (unit_bytes v ++ modified units)) (utf8 ps)) (both (leads u) (trails v))
    (character u v ∷ points units) (alone u ∷ points (v ∷ units))
    (λ t. alike_pair (alike_units units rest) u v t) (alike_unit (alike_units (v ∷ units) (more low rest)) u small)

pub alike_turned : (text : List ℕ) → is_modified text ≡ true → Alike text (turned text)
alike_turned text right =
    let read = text_declared.only text right in
    let turns = text_declared.turns read.0 read.1 in
    subst (λ (l : List ℕ). Alike l (turned l)) (sym read.2)
    (subst (λ (l : List ℕ). Alike (modified read.0) l) (sym turns) (alike_units read.0 read.1))
