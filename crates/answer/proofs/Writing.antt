-- A message is measured by writing it to no output, and written where there is room for all of it.
-- Assumes nothing.
use Prim.Native.Nat.{ℕ, ◌≤◌, ◌<◌, min}
use native.Mathlib.Nat.{zero-add}
use native.Mathlib.Omega.{arith}
use mathlib.Core.List.{List, []}
use mathlib.Core.Path.{◌≡◌, ◌∙◌, ap}
use lib.ListN.{length}
use borrow.Author.Tests.{le-leb, lt-leb}
use Rattle.answer.specs.Answer.{said, needed, Delivered}
use Rattle.answer.specs.declared.Report.TheVariants.{Message, NoOutput}
use Rattle.text.specs.Writing.{most, splice, following, Written}

module _ (message : List ℕ) (kind scan block : ℕ) (out : List ℕ) where
  measured : (size : ℕ) (after : List ℕ) → Written 0 message [] size after → size ≡ needed message
  unfolding following
  measured size after w = w.place ∙ ap (λ (k : ℕ). min k most) (zero-add (length message))

  pub no-room : (size : ℕ) (after : List ℕ) → Written 0 message [] size after → length out < size →
      Delivered (said message kind scan block) out (NoOutput size) out
  no-room size after w more =
      let e : size ≡ min (length message) most = measured size after w in
      let left = lt-leb (length message) (length out) (omega arith) in
      record { answers = rw left (ap NoOutput e); leaves = rw left }

  pub room :
      (size : ℕ) (after : List ℕ) → Written 0 message [] size after → length out < most → size ≤ length out →
      (end : ℕ) (left : List ℕ) → Written 0 message out end left →
      Delivered (said message kind scan block) out (Message size kind scan block) left
  unfolding splice
  room size after w small fits end left written =
      let e : size ≡ min (length message) most = measured size after w in
      let whole : size ≡ length message = omega arith in
      let taken = le-leb (length message) (length out) (omega arith) in
      record {
        answers = rw taken (ap (λ (k : ℕ). Message k kind scan block) whole);
        leaves = rw taken written.bytes;
      }
