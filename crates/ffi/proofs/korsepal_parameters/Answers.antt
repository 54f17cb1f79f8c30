-- `ffi::korsepal_parameters` meets its contract. The list is measured by writing it to no output, and written where there is room for all of it.
-- Assumes nothing.
use Prim.Native.Nat.{◌-◌, ◌^◌, ◌<◌}
use native.Mathlib.Omega.{arith}
use mathlib.Core.Path.{refl, sym, ap, ◌∙◌}
use lib.ListN.{length}
use Rattle.answer.proofs.Writing as writing
use Rattle.structs.specs.Structs.{list_numbers}
use Rattle.answer.specs.Answer.{numbered}
use Rattle.ffi.proofs.korsepal_parameters.Goals as goal

pub returns-in_default : goal.returns-in_default
returns-in_default c =
    let read = sym c.parse_method_params.ensures ∙ c.in_default.is in record { answers = rw read refl; leaves = rw read refl }

pub returns-then-output-needed : goal.returns-then-output-needed
unfolding numbered
returns-then-output-needed c =
    let a = c.args in
    let read = sym c.parse_method_params.ensures ∙ c.in-Some.is in
    let told = writing.no-room _ 0 0 0 a.output.now _ _ c.put_params_at-needed.ensures c.if-output-needed.true in record { answers = rw read (ap (list_numbers c.in-Some.params.slots) told.answers); leaves = rw read told.leaves }

pub returns : goal.returns
unfolding numbered
returns c =
    let a = c.args in
    let read = sym c.parse_method_params.ensures ∙ c.in-Some.is in
    let small : length a.output.now < 2 ^ 64 - 1 = omega arith in
    let told = writing.room _ 0 0 0 a.output.now _ _ c.put_params_at-needed.ensures small (omega arith) _ _ c.put_params_at.ensures in record { answers = rw read (ap (list_numbers c.in-Some.params.slots) told.answers); leaves = rw read told.leaves }
