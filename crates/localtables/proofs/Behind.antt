-- What is right behind an item of a format that is right, by the answer of the item's reader.
-- Assumes nothing.
use Rattle.std.specs.Prelude.{Ok, Err, Some, None}
use Prim.Native.Nat.{ℕ, zero, suc, ◌+◌, ◌≤◌, ◌<◌}
use native.Mathlib.Omega.{arith}
use mathlib.Core.Path.{◌≡◌, refl, ◌∙◌, sym}
use mathlib.Core.Bool.{Bool, true, false}
use mathlib.Core.List.{List, []}
use lib.Dec.{leb}
use borrow.Author.Tests.{leb-true}
use Rattle.basics.specs.Bytes.{AreBytes}
use Rattle.basics.proofs.Bytes.{u16_below}
use Rattle.format.specs.Format.{Format, number, window as windowed, full, done, and_then, times, number_at, Reading, right, wrong, go_on, read_by}
use Rattle.format.specs.Items.{item_at, window_at, run_of}
use Rattle.format.proofs.Items.{two_bytes, item_is, number_cut, number_bad, number_right, window_cut, window-right, then-read, then_wrong, ended}
use Rattle.format.proofs.Was.{FirstOf, first_of, number_was, then_was}
use Rattle.classformat.specs.ClassFile.{passed_over}
use Rattle.attributes.proofs.Passing.{passed_right, passed_wrong}

-- what is due at a place is right, and this comes of it
pub record Right {A : Type 0} (due : Format A) (file : List ℕ) (at : ℕ) (a : A) (end : ℕ) : Type 0 where
  pub was : read_by due file at ≡ right a end

-- as a contract says it
pub judged :
    {A : Type 0} (due : Format A) (file : List ℕ) (at : ℕ) {a : A} {end : ℕ} → read_by due file at ≡ right a end → Right due file at a end
judged due file at is = record { was = is }

-- the rules are used for the reading itself
abbrev itself : {A : Type 0} → Reading A → Reading A
itself r = r

-- what is right is not wrong
pub never : {A B : Type 0} {r : Reading A} {a : A} {end place : ℕ} → r ≡ right a end → r ≡ wrong place → B
never e e' = let z : ◌≡◌ {A = ℕ} 0 1 = cc in absurd (omega arith)

-- a run that ended
pub run_right :
    {A : Type 0} (due : Format A) (file : List ℕ) (at : ℕ) {stop : ℕ} → run_of (read_by due file at) ≡ Ok stop →
    (a : A) × Right due file at a stop
run_right due file at is = let read = ended (read_by due file at) is in (read.0, record { was = read.1 })

-- ---- numbers, windows, and what is passed over

module _ {A : Type 0} {file : List ℕ} {width limit at : ℕ} {a : A} {end : ℕ} where
  module _ {ok : ℕ → Bool} {following : ℕ → Format A} (due : Right (number width limit ok following) file at a end) where
    pub number_fits : (at + width ≤ limit) × Right (following (number_at width file at)) file (at + width) a end
    number_fits = let all = number_was file at width limit ok following due.was in (all.0, record { was = all.2 })

    pub number_uncut : {B : Type 0} → item_at width limit file at ≡ None → B
    number_uncut is = never due.was (number_cut {tell = itself} {ok = ok} {following = following} is).is

    pub number_behind : {v next : ℕ} → item_at width limit file at ≡ Some (v, next) → Right (following v) file next a end
    number_behind {v} {next} is = by (ok v) refl
      where
        by : (t : Bool) → ok v ≡ t → Right (following v) file next a end
        by true passes =
            record { was = sym (number_right {tell = itself} {ok = ok} {following = following} is passes (record { is = refl })).is ∙ due.was }
        by false fails = never due.was (number_bad {tell = itself} {ok = ok} {following = following} is fails).is

  module _ {following : ℕ → Format A} (due : Right (windowed width limit following) file at a end) where
    pub window_uncut : {B : Type 0} → window_at width limit file at ≡ None → B
    window_uncut is = never due.was (window_cut {tell = itself} {following = following} is).is

    pub window_behind :
        {start stop : ℕ} → window_at width limit file at ≡ Some (start, stop) → Right (following stop) file start a end
    window_behind is =
        record { was = sym (window-right {tell = itself} {following = following} is (record { is = refl })).is ∙ due.was }

module _
    {A : Type 0} {made : A} {limit : ℕ} {file : List ℕ} {at : ℕ} {a : A} {end : ℕ}
    (due : Right (passed_over limit made) file at a end) where
  pub passed_unwrong : {B : Type 0} {place : ℕ} → run_of (read_by (passed_over limit (tt {0})) file at) ≡ Err place → B
  passed_unwrong is = never due.was (passed_wrong {tell = itself} made is).is

  pub passed_behind : {next : ℕ} → run_of (read_by (passed_over limit (tt {0})) file at) ≡ Ok next → (made ≡ a) × (next ≡ end)
  passed_behind {next} is =
      let both : right made next ≡ right a end = sym (passed_right {tell = itself} made is).is ∙ due.was in
      let same : made ≡ a = cc in
      let place : next ≡ end = cc in
      (same, place)

-- ---- the end

module _ {A : Type 0} {file : List ℕ} {at : ℕ} {a : A} {end : ℕ} where
  pub full_fits :
      {limit : ℕ} {following : Format A} → Right (full limit following) file at a end → (limit ≤ at) × Right following file at a end
  unfolding read_by
  full_fits {limit} {following} due = by (leb limit at) refl due.was
    where
      by :
          (t : Bool) → leb limit at ≡ t → go_on t at at (λ next. read_by following file next) ≡ right a end →
          (limit ≤ at) × Right following file at a end
      by true all e = (leb-true limit at all, record { was = e })
      by false more e = never e refl

  pub done_is : {made : A} → Right (done made) file at a end → (made ≡ a) × (at ≡ end)
  unfolding read_by
  done_is {made} due =
      let both : right made at ≡ right a end = due.was in
      let same : made ≡ a = cc in
      let place : at ≡ end = cc in
      (same, place)

-- ---- one format behind another

module _ {A B : Type 0} (format : Format A) (rest : A → Format B) {file : List ℕ} {at : ℕ} {b : B} {end : ℕ}
    (due : Right (and_then format rest) file at b end) where
  pub then_both : (a : A) × (next : ℕ) × Right format file at a next × Right (rest a) file next b end
  then_both =
      let all = then_was file at format rest due.was in
      (all.0, all.1, record { was = all.2 }, record { was = all.3 })

  pub then_unwrong : {C : Type 0} {place : ℕ} → run_of (read_by format file at) ≡ Err place → C
  then_unwrong is = never due.was (then_wrong {tell = itself} format rest _ is).is

  pub then_behind : {next : ℕ} → run_of (read_by format file at) ≡ Ok next → (a : A) × Right (rest a) file next b end
  then_behind is =
      let read = ended (read_by format file at) is in
      (read.0, record { was = sym (then-read {tell = itself} format rest read.1 (record { is = refl })).is ∙ due.was })

-- ---- a number of two bytes

pub two_below :
    (limit : ℕ) (file : List ℕ) (at : ℕ) → AreBytes file → {v next : ℕ} → item_at 2 limit file at ≡ Some (v, next) → v < 65536
two_below limit file at are is = omega (arith, u16_below file are at, two_bytes file at, (item_is 2 limit file at is).1)

-- ---- a format that stands so many times: a turn of a loop over it

module _ {A : Type 0} (one : Format A) (file : List ℕ) (at : ℕ) {xs : List A} {end : ℕ} where
  pub some_left :
      (left after : ℕ) → left ≡ suc after → read_by (times left one) file at ≡ right xs end → FirstOf one after file at xs end
  some_left left after some is = first_of one after file at (rw some at is)

  pub none_left : (left : ℕ) → left ≤ 0 → read_by (times left one) file at ≡ right xs end → xs ≡ []
  unfolding times
  none_left zero none is = sym (done_is (judged (done []) file at is)).0
  none_left (suc n) none is = absurd (omega arith)

pub no_times : {A : Type 0} (one : Format A) (file : List ℕ) (at : ℕ) → read_by (times 0 one) file at ≡ right [] at
unfolding times read_by
no_times one file at = refl

-- what all of them come to is what those that are left come to, from here on
abbrev pub Onward : {A B : Type 0} → Format A → (List A → B) → (List A → B) → List ℕ → ℕ → ℕ → ℕ → ℕ → Type 0
Onward {A} one whole onward file count from left at =
    (xs : List A) (end : ℕ) → read_by (times count one) file from ≡ right xs end →
    (ys : List A) × (read_by (times left one) file at ≡ right ys end) × (whole xs ≡ onward ys)
