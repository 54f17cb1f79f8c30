-- `text::put_decimal` meets its contract. The loop's invariant: the digits of what is left, written over the output, make it what the
-- whole number makes of it.
-- Assumes nothing.
use Prim.Native.Nat.{ℕ, ◌+◌, ◌-◌, ◌/◌, ◌%◌}
use native.Mathlib.Omega.{arith}
use mathlib.Core.Path.{◌≡◌, ◌∙◌, sym, ap}
use mathlib.Core.List.{List, [], ◌∷◌}
use lib.ListN.{length}
use Rattle.text.specs.Decimal.{decimal}
use Rattle.text.specs.Writing.{over, splice, following}
use Rattle.text.proofs.Decimal.{one_digit, one_more, decimal_short, last_written}
use Rattle.text.proofs.Writing.{nothing_past}
use Rattle.text.proofs.put_decimal.Goals as goal

-- so many digits end at the place that follows them
counted : {count : ℕ} (n : ℕ) → count ≡ length (decimal n) → count ≡ following 0 (decimal n)
unfolding following
counted n is = omega (arith, is, decimal_short n)

pub returns-then-out-eq0 : goal.returns-then-out-eq0
returns-then-out-eq0 c =
    let a = c.args in
    record {
      place = counted a.n c.digit_count-count.ensures;
      bytes = sym (nothing_past 0 (decimal a.n) a.out.now (omega arith));
    }

pub overflow_sub-at : goal.overflow_sub-at
overflow_sub-at c = omega (arith, one_more c.loop-left.left c.loop-left-test.true (omega arith))

pub loop-left-preserved : goal.loop-left-preserved
loop-left-preserved c =
    let l = c.loop-left in
    let put = c.put_digit_at in
    let digit : put.new.out ≡ splice (l.at - 1) ((48 + l.left % 10) ∷ []) l.out = put.ensures in
    let big = c.loop-left-test.true in
    let more = one_more l.left big (omega arith) in (
      ap (over (decimal (l.left / 10))) digit ∙ last_written l.left (l.at - 1) l.out big (omega arith) (omega arith) ∙ l.invariant.0,
      omega arith,
      omega arith,
    )

-- with the first digit all are written
all-written :
    (c : goal.After-slice_known-2-1) →
    let a = c.args in
    c.put_digit_at-2.new.out ≡ over (decimal a.n) a.out.now
unfolding splice
all-written c =
    let l = c.loop-left in
    c.put_digit_at-2.ensures
    ∙ ap (λ (text : List ℕ). over text l.out) (sym (one_digit l.left (omega arith)))
    ∙ l.invariant.0

pub returns : goal.returns
unfolding splice
returns c =
    record {
      place = counted c.args.n c.digit_count-count.ensures;
      bytes = all-written c;
    }
