-- Reading item by item: what is told of a reading, by the answers of its items' readers. Each rule goes from what is due to what is due
-- behind it, so that the proof of a reader is the list of its items.
-- Assumes nothing.
use Rattle.std.specs.Prelude.{Result, Ok, Err, IsErrAnd, Option, Some, None}
use Rattle.std.proofs.lemmas.Option.{some_pair_parts}
use Rattle.std.proofs.lemmas.Result.{err_from_is_err_and}
use Prim.Native.Nat.{ℕ, zero, suc, ◌+◌, ◌-◌, ◌≤◌, ◌<◌}
use native.Mathlib.Omega.{arith}
use mathlib.Core.Path.{◌≡◌, refl, ◌∙◌, sym, ap}
use mathlib.Core.Bool.{Bool, true, false}
use mathlib.Core.List.{List, ◌∷◌}
use lib.Dec.{leb}
use borrow.Author.Tests.{le-leb, lt-leb, leb-true, leb-false}
use Rattle.basics.specs.Bytes.{u16_at, u32_at}
use Rattle.basics.specs.Choice.{pick, both}
use Rattle.format.specs.Format.{Format, number, text, window as windowed, full, here, done, and_then, times, each, number_at, bytes_at, Reading, right, wrong, then_read, go_on, window_right, read_by}
use Rattle.format.specs.Items.{item_at, window_at, told_by, run_of}
use Rattle.format.proofs.Reading.{read_then}

-- what a `?` answers is the wrong place that it met
pub passed_on : {T E : Type 0} {r : Result T E} {place : E} → IsErrAnd r (λ met. met ≡ place) → r ≡ Err place
passed_on {r} h = let p = err_from_is_err_and r h in p.1 ∙ ap Err p.2

-- ---- numbers of two and of four bytes

pub two_bytes : (file : List ℕ) (at : ℕ) → number_at 2 file at ≡ u16_at file at
unfolding number_at u16_at
two_bytes file at = omega arith

pub four_bytes : (file : List ℕ) (at : ℕ) → number_at 4 file at ≡ u32_at file at
unfolding number_at u16_at u32_at
four_bytes file at =
    let second : at + 1 + 1 ≡ at + 2 = omega arith in
    let third : at + 2 + 1 ≡ at + 3 = omega arith in
    rw (second, third) (omega arith)

-- ---- what an item's reader says of the file

module _ (width limit : ℕ) (file : List ℕ) (at : ℕ) where
  pub item_is :
      {v next : ℕ} → item_at width limit file at ≡ Some (v, next) → (at + width ≤ limit) × (number_at width file at ≡ v) × (at + width ≡ next)
  unfolding item_at
  item_is {v} {next} is = by (leb (at + width) limit) refl is
    where
      by :
          (t : Bool) → leb (at + width) limit ≡ t → pick {A = Option (ℕ × ℕ)} t (Some (number_at width file at, at + width)) None ≡ Some (v, next) →
          (at + width ≤ limit) × (number_at width file at ≡ v) × (at + width ≡ next)
      by true fits e =
          let same = some_pair_parts _ _ _ _ e in
          (leb-true (at + width) limit fits, same.0, same.1)
      by false cut e = let z : ◌≡◌ {A = ℕ} 0 1 = cc in absurd (omega arith)

  pub item_cut : item_at width limit file at ≡ None → limit < at + width
  unfolding item_at
  item_cut is = by (leb (at + width) limit) refl is
    where
      by : (t : Bool) → leb (at + width) limit ≡ t → pick {A = Option (ℕ × ℕ)} t (Some (number_at width file at, at + width)) None ≡ None → limit < at + width
      by true fits e = let z : ◌≡◌ {A = ℕ} 0 1 = cc in absurd (omega arith)
      by false cut e = leb-false (at + width) limit cut

-- ---- what the format goes on with behind an item

module _ {A : Type 0} (file : List ℕ) (width limit at : ℕ) where
  abbrev behind : Option (ℕ × ℕ) → (ℕ → ℕ → Reading A) → Reading A
  behind (Some (v, next)) following = following v next
  behind None following = wrong at

  abbrev inside : Option (ℕ × ℕ) → (ℕ → ℕ → Reading A) → Reading A
  inside (Some (start, stop)) following = following start stop
  inside None following = wrong at

  -- a number that is read has to pass its rule, and so has a text
  abbrev numbered : (ℕ → Bool) → (ℕ → Format A) → ℕ → ℕ → Reading A
  numbered ok following v next = go_on (ok v) at next (λ n. read_by (following v) file n)

  abbrev spelled : (ℕ → List ℕ → Bool) → (ℕ → ℕ → Format A) → ℕ → ℕ → Reading A
  spelled ok following start stop =
      go_on (ok (stop - start) (bytes_at file start (stop - start))) at stop (λ n. read_by (following start (stop - start)) file n)

  number_by :
      (ok : ℕ → Bool) (following : ℕ → Format A) →
      read_by (number width limit ok following) file at ≡ behind (item_at width limit file at) (numbered ok following)
  unfolding read_by item_at
  number_by ok following = by (leb (at + width) limit)
    where
      by :
          (t : Bool) →
          go_on (both t (ok (number_at width file at))) at (at + width) (λ n. read_by (following (number_at width file at)) file n)
          ≡ behind (pick {A = Option (ℕ × ℕ)} t (Some (number_at width file at, at + width)) None) (numbered ok following)
      by true = refl
      by false = refl

  window_by :
      (following : ℕ → Format A) →
      read_by (windowed width limit following) file at ≡ inside (window_at width limit file at) (λ start stop. read_by (following stop) file start)
  unfolding read_by window_at
  window_by following = by (window_right width limit file at)
    where
      by :
          (t : Bool) →
          go_on t at (at + width) (λ n. read_by (following (at + width + number_at width file at)) file n)
          ≡ inside (pick {A = Option (ℕ × ℕ)} t (Some (at + width, at + width + number_at width file at)) None)
          (λ start stop. read_by (following stop) file start)
      by true = refl
      by false = refl

  text_by :
      (ok : ℕ → List ℕ → Bool) (following : ℕ → ℕ → Format A) →
      read_by (text width limit ok following) file at ≡ inside (window_at width limit file at) (spelled ok following)
  unfolding read_by window_at
  text_by ok following = by (window_right width limit file at)
    where
      size : at + width + number_at width file at - (at + width) ≡ number_at width file at
      size = omega arith

      by :
          (t : Bool) →
          go_on (both t (ok (number_at width file at) (bytes_at file (at + width) (number_at width file at)))) at (at + width + number_at width file at)
          (λ n. read_by (following (at + width) (number_at width file at)) file n)
          ≡ inside (pick {A = Option (ℕ × ℕ)} t (Some (at + width, at + width + number_at width file at)) None) (spelled ok following)
      by true = rw size
      by false = refl

-- ---- the rules

-- what is told of reading what is due at a place
pub record Tells {A B : Type 0} (tell : Reading A → B) (due : Format A) (file : List ℕ) (at : ℕ) (answer : B) : Type 0 where
  pub is : tell (read_by due file at) ≡ answer

-- as a contract says it
pub told :
    {A B : Type 0} (tell : Reading A → B) (due : Format A) {file : List ℕ} {at : ℕ} {answer : B} → Tells tell due file at answer →
    answer ≡ tell (read_by due file at)
told tell due tells = sym tells.is

module _ {A B : Type 0} {tell : Reading A → B} {file : List ℕ} {width limit at : ℕ} where
  module _ {ok : ℕ → Bool} {following : ℕ → Format A} where
    pub number_cut : item_at width limit file at ≡ None → Tells tell (number width limit ok following) file at (tell (wrong at))
    number_cut is = record { is = ap tell (number_by file width limit at ok following) ∙ ap (λ (i : Option (ℕ × ℕ)). tell (behind file width limit at i (numbered file width limit at ok following))) is }

    pub number_bad :
        {v next : ℕ} → item_at width limit file at ≡ Some (v, next) → ok v ≡ false →
        Tells tell (number width limit ok following) file at (tell (wrong at))
    number_bad {v} {next} is fails =
        record {
          is = ap tell (number_by file width limit at ok following) ∙ ap (λ (i : Option (ℕ × ℕ)). tell (behind file width limit at i (numbered file width limit at ok following))) is
              ∙ ap (λ (t : Bool). tell (go_on t at next (λ n. read_by (following v) file n))) fails;
        }

    pub number_right :
        {v next : ℕ} {answer : B} → item_at width limit file at ≡ Some (v, next) → ok v ≡ true → Tells tell (following v) file next answer →
        Tells tell (number width limit ok following) file at answer
    number_right {v} {next} is passes onward =
        record {
          is = ap tell (number_by file width limit at ok following) ∙ ap (λ (i : Option (ℕ × ℕ)). tell (behind file width limit at i (numbered file width limit at ok following))) is
              ∙ ap (λ (t : Bool). tell (go_on t at next (λ n. read_by (following v) file n))) passes ∙ onward.is;
        }

  module _ {following : ℕ → Format A} where
    pub window_cut : window_at width limit file at ≡ None → Tells tell (windowed width limit following) file at (tell (wrong at))
    window_cut is = record { is = ap tell (window_by file width limit at following) ∙ ap (λ (w : Option (ℕ × ℕ)). tell (inside file width limit at w (λ start stop. read_by (following stop) file start))) is }

    pub window-right :
        {start stop : ℕ} {answer : B} → window_at width limit file at ≡ Some (start, stop) → Tells tell (following stop) file start answer →
        Tells tell (windowed width limit following) file at answer
    window-right is onward = record { is = ap tell (window_by file width limit at following) ∙ ap (λ (w : Option (ℕ × ℕ)). tell (inside file width limit at w (λ start stop. read_by (following stop) file start))) is ∙ onward.is }

  module _ {ok : ℕ → List ℕ → Bool} {following : ℕ → ℕ → Format A} where
    pub text_cut : window_at width limit file at ≡ None → Tells tell (text width limit ok following) file at (tell (wrong at))
    text_cut is = record { is = ap tell (text_by file width limit at ok following) ∙ ap (λ (w : Option (ℕ × ℕ)). tell (inside file width limit at w (spelled file width limit at ok following))) is }

    pub text_bad :
        {start stop : ℕ} → window_at width limit file at ≡ Some (start, stop) → ok (stop - start) (bytes_at file start (stop - start)) ≡ false →
        Tells tell (text width limit ok following) file at (tell (wrong at))
    text_bad {start} {stop} is fails =
        record {
          is = ap tell (text_by file width limit at ok following) ∙ ap (λ (w : Option (ℕ × ℕ)). tell (inside file width limit at w (spelled file width limit at ok following))) is
              ∙ ap (λ (t : Bool). tell (go_on t at stop (λ n. read_by (following start (stop - start)) file n))) fails;
        }

    pub text_right :
        {start stop : ℕ} {answer : B} → window_at width limit file at ≡ Some (start, stop) →
        ok (stop - start) (bytes_at file start (stop - start)) ≡ true → Tells tell (following start (stop - start)) file stop answer →
        Tells tell (text width limit ok following) file at answer
    text_right {start} {stop} is passes onward =
        record {
          is = ap tell (text_by file width limit at ok following) ∙ ap (λ (w : Option (ℕ × ℕ)). tell (inside file width limit at w (spelled file width limit at ok following))) is
              ∙ ap (λ (t : Bool). tell (go_on t at stop (λ n. read_by (following start (stop - start)) file n))) passes ∙ onward.is;
        }

module _ {A B : Type 0} {tell : Reading A → B} {file : List ℕ} {limit at : ℕ} {following : Format A} where
  pub all_read : {answer : B} → limit ≤ at → Tells tell following file at answer → Tells tell (full limit following) file at answer
  unfolding read_by
  all_read none onward = record { is = rw (le-leb limit at none) onward.is }

  pub more_there : at < limit → Tells tell (full limit following) file at (tell (wrong at))
  unfolding read_by
  more_there some = record { is = rw (lt-leb limit at some) }

pub told_here :
    {A B : Type 0} {tell : Reading A → B} {file : List ℕ} {at : ℕ} {following : ℕ → Format A} {answer : B} →
    Tells tell (following at) file at answer → Tells tell (here following) file at answer
unfolding read_by
told_here onward = record { is = onward.is }

pub all_done : {A B : Type 0} {tell : Reading A → B} {file : List ℕ} {at : ℕ} {a : A} → Tells tell (done a) file at (tell (right a at))
unfolding read_by
all_done = record { is = refl }

-- ---- one format behind another

-- by what is told of it, a reading came to something, or it has a first wrong item
module _ {A B : Type 0} (make : A → ℕ → B) where
  pub was_read : (r : Reading A) {b : B} → told_by make r ≡ Ok b → (a : A) × (end : ℕ) × (r ≡ right a end) × (make a end ≡ b)
  was_read (right a end) {b} e = let same : make a end ≡ b = cc in (a, end, refl, same)
  was_read (wrong place) e = let z : ◌≡◌ {A = ℕ} 0 1 = cc in absurd (omega arith)

  pub failed : (r : Reading A) {place : ℕ} → told_by make r ≡ Err place → r ≡ wrong place
  failed (right a end) e = let z : ◌≡◌ {A = ℕ} 0 1 = cc in absurd (omega arith)
  failed (wrong offset) {place} e = let same : offset ≡ place = cc in ap wrong same

pub ended : {A : Type 0} (r : Reading A) {next : ℕ} → run_of r ≡ Ok next → (a : A) × (r ≡ right a next)
ended r e = let w = was_read (λ a end. end) r e in (w.0, w.2 ∙ ap (right w.0) w.3)

-- where the place after it is told beside what is made
pub pair_read :
    {A B : Type 0} (make : A → B) (r : Reading A) {b : B} {next : ℕ} → told_by {B = B × ℕ} (λ a end. (make a, end)) r ≡ Ok (b, next) →
    (a : A) × (r ≡ right a next) × (make a ≡ b)
pair_read {A} {B} make r e =
    let w = was_read {B = B × ℕ} (λ a end. (make a, end)) r e in
    (w.0, w.2 ∙ ap (right w.0) (ap (λ (p : B × ℕ). p.1) w.3), ap (λ (p : B × ℕ). p.0) w.3)

module _ {A B C : Type 0} {tell : Reading B → C} (format : Format A) (rest : A → Format B) {file : List ℕ} {at : ℕ} where
  pub then-read :
      {a : A} {next : ℕ} {answer : C} → read_by format file at ≡ right a next → Tells tell (rest a) file next answer →
      Tells tell (and_then format rest) file at answer
  then-read is onward = record { is = ap tell (read_then rest file format at) ∙ ap (λ (r : Reading A). tell (then_read r (λ a next. read_by (rest a) file next))) is ∙ onward.is }

  pub then_wrong :
      {D : Type 0} (make : A → ℕ → D) {place : ℕ} → told_by make (read_by format file at) ≡ Err place →
      Tells tell (and_then format rest) file at (tell (wrong place))
  then_wrong make is =
      let read = failed make (read_by format file at) is in
      record { is = ap tell (read_then rest file format at) ∙ ap (λ (r : Reading A). tell (then_read r (λ a next. read_by (rest a) file next))) read }

  pub then_right :
      {next : ℕ} {answer : C} → run_of (read_by format file at) ≡ Ok next → ((a : A) → Tells tell (rest a) file next answer) →
      Tells tell (and_then format rest) file at answer
  then_right is onward = let read = ended (read_by format file at) is in then-read read.1 (onward read.0)

-- a format behind which nothing more is due: what is made of it does not matter to a run
pub then_done :
    {A B : Type 0} (format : Format A) (make : A → B) {file : List ℕ} {at : ℕ} →
    Tells run_of (and_then format (λ a. done (make a))) file at (run_of (read_by format file at))
unfolding read_by
then_done {A} format make {file} {at} =
    record { is = ap run_of (read_then (λ a. done (make a)) file format at) ∙ by (read_by format file at) }
  where
    by : (r : Reading A) → run_of (then_read r (λ a next. read_by (done (make a)) file next)) ≡ run_of r
    by (right a next) = refl
    by (wrong place) = refl

-- ---- a format that stands so many times: a turn of a loop over it

module _ {A : Type 0} (one : Format A) {file : List ℕ} {at : ℕ} where
  pub turn_wrong :
      {B : Type 0} (make : A → ℕ → B) (left : ℕ) {place : ℕ} → 0 < left → told_by make (read_by one file at) ≡ Err place →
      Tells run_of (times left one) file at (Err place)
  unfolding times
  turn_wrong make zero some is = absurd (omega arith)
  turn_wrong make (suc n) some is = then_wrong one (λ a. and_then (times n one) (λ more. done (a ∷ more))) make is

  pub turn_right :
      (left after : ℕ) {next : ℕ} → left ≡ suc after → run_of (read_by one file at) ≡ Ok next →
      Tells run_of (times left one) file at (run_of (read_by (times after one) file next))
  unfolding times
  turn_right left after some is =
      rw some (then_right one (λ a. and_then (times after one) (λ more. done (a ∷ more))) is (λ a. then_done (times after one) (λ more. a ∷ more)))

  pub none_left : (left : ℕ) → left ≤ 0 → Tells run_of (times left one) file at (Ok at)
  unfolding times read_by
  none_left zero none = record { is = refl }
  none_left (suc n) none = absurd (omega arith)

-- the same where each is by what came of those before it
module _ {A B : Type 0} {tell : Reading A → B} (one : A → Format A) (a : A) {file : List ℕ} {at : ℕ} where
  pub each_wrong :
      {C : Type 0} (make : A → ℕ → C) (left : ℕ) {place : ℕ} → 0 < left → told_by make (read_by (one a) file at) ≡ Err place →
      Tells tell (each left one a) file at (tell (wrong place))
  unfolding each
  each_wrong make zero some is = absurd (omega arith)
  each_wrong make (suc n) some is = then_wrong (one a) (λ b. each n one b) make is

  pub each_read :
      (left after : ℕ) {b : A} {next : ℕ} {answer : B} → left ≡ suc after → read_by (one a) file at ≡ right b next →
      Tells tell (each after one b) file next answer → Tells tell (each left one a) file at answer
  unfolding each
  each_read left after some is onward = rw some (then-read (one a) (λ b. each after one b) is onward)

  pub each_none : (left : ℕ) → left ≤ 0 → Tells tell (each left one a) file at (tell (right a at))
  unfolding each
  each_none zero none = all_done
  each_none (suc n) none = absurd (omega arith)
