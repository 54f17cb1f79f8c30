-- From what was judged to what is answered and written.
-- Assumes nothing.
use Rattle.std.specs.Prelude.{Ok, Err}
use Prim.Native.Nat.{ℕ, ◌*◌, ◌/◌, ◌≤◌, ◌<◌}
use native.Mathlib.Omega.{arith}
use mathlib.Core.Path.{◌≡◌, refl, sym, ap}
use mathlib.Core.List.{List}
use lib.ListN.{length}
use borrow.Author.Tests.{lt-ltb, le-ltb}
use Rattle.basics.specs.Parts.{overlaid}
use Rattle.refusal.specs.declared.Refusal.{Refusal}
use Rattle.refusal.specs.declared.Refusal.TheVariants.{NoRoom}
use Rattle.judging.specs.Judged.{judged}
use Rattle.judging.specs.Reading.{Reading, types, refused}
use Rattle.jdescriptor.specs.Answer.{numbers_of, answer, written, IsTypes, records_of}

pub accepted : (R : Reading) (count : ℕ) → judged R ≡ Ok count → IsTypes R × (length (records_of R) ≡ count)
accepted (types ts) count e = (tt, cc)
accepted (refused r) count e = let z : ◌≡◌ {A = ℕ} 0 1 = cc in absurd (omega arith)

pub too_small :
    (R : Reading) (count : ℕ) (d : List ℕ) → judged R ≡ Ok count → length d / 4 < count →
    (Err NoRoom ≡ answer R (length d)) × (d ≡ written R d)
unfolding answer written
too_small (types ts) count d e h =
    let same : length ts ≡ count = cc in
    let small = lt-ltb (length d) (4 * length ts) (omega arith) in
    (rw small, rw small)
too_small (refused r) count d e h = let z : ◌≡◌ {A = ℕ} 0 1 = cc in absurd (omega arith)

pub fitting :
    (R : Reading) (count : ℕ) (d cells : List ℕ) → judged R ≡ Ok count → count ≤ length d / 4 →
    cells ≡ overlaid 0 (numbers_of (records_of R)) d → (Ok count ≡ answer R (length d)) × (cells ≡ written R d)
unfolding answer written
fitting (types ts) count d cells e h q =
    let same : length ts ≡ count = cc in
    let large = le-ltb (length d) (4 * length ts) (omega arith) in
    (rw large (ap Ok (sym same)), rw large q)
fitting (refused r) count d cells e h q = let z : ◌≡◌ {A = ℕ} 0 1 = cc in absurd (omega arith)

pub turned_down :
    (R : Reading) (r : Refusal) (d : List ℕ) → judged R ≡ Err r → (Err r ≡ answer R (length d)) × (d ≡ written R d)
unfolding answer written
turned_down (types ts) r d e = let z : ◌≡◌ {A = ℕ} 0 1 = cc in absurd (omega arith)
turned_down (refused q) r d e = (sym e, refl)
