-- `block::push_opaque` meets its contract. Too few slots, too few cells, or the cells that are taken cleared.
-- Assumes nothing.
use Prim.Native.Nat.{ℕ, ◌-◌, ◌≤◌}
use native.Mathlib.Omega.{arith}
use mathlib.Core.Path.{◌≡◌, ap, ◌∙◌}
use mathlib.Core.List.{List, ◌++◌}
use lib.ListN.{take, replicate}
use borrow.Rule.Slice.PartMut.{put_mid, Post-is, mid_len}
use Rattle.walk.specs.Walk.{blanks}
use Rattle.block.proofs.Laying as laying
use Rattle.block.proofs.push_opaque.Goals as goal

pub returns-then-height-takes : goal.returns-then-height-takes
returns-then-height-takes c =
    let a = c.args in
    laying.too_few a.stack.now a.height c.requires 0 a.takes (blanks a.gives) c.if-height-takes.true

pub returns-then-stack-start : goal.returns-then-stack-start
returns-then-stack-start c =
    let a = c.args in
    let stack = a.stack.now in
    laying.laid_over stack _ _ (laying.enough stack a.height c.requires 0 a.takes (blanks a.gives) (omega arith))
    (omega (arith, laying.blank_length stack a.height c.requires a.takes a.gives))

pub returns : goal.returns
returns c =
    let a = c.args in
    let clean = c.requires in
    let stack : List ℕ = a.stack.now in
    let kept : ℕ = a.height - a.takes in
    let fewer : a.takes ≤ a.height = omega arith in
    let width : a.height - kept ≡ a.takes = omega arith in
    let size = laying.blank_length stack a.height clean a.takes a.gives in
    laying.laid_high stack _ _ (laying.enough stack a.height clean 0 a.takes (blanks a.gives) fewer) _ _
    (omega (arith, size)) (omega (arith, size))
    (ap (put_mid kept (a.height - kept) stack)
    (c.clear.ensures
    ∙ ap (λ (k : ℕ). replicate k 0) (mid_len kept a.height stack clean.high ∙ width))
    ∙ ap (λ (l : List ℕ). take kept stack ++ (replicate a.takes 0 ++ l)) (Post-is kept a.height stack (omega arith))
    ∙ laying.blank_shown stack a.height clean a.takes a.gives fewer (omega arith))
