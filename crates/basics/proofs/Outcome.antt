-- One outcome: a contract that says what the result is allows one result only.
-- Assumes nothing.
use mathlib.Core.Path.{◌≡◌, ◌∙◌, sym}

pub one_outcome : {A : Type 0} {wanted one another : A} → one ≡ wanted → another ≡ wanted → one ≡ another
one_outcome e f = e ∙ sym f
