-- Which calls do what document 01 says, though document 02, request 2, moved the place of a return. proofs/Calls.antt has the proof.
-- Assumes nothing.
use Rattle.std.specs.Prelude.{ℕ, ◌≡◌, List, Some}
use Rattle.descriptor.specs.Readers.{parameters}
use Rattle.descriptor.specs.declared.Params.{Params}
use Rattle.descriptors.specs.Place.{first_return, NoneBefore}
use Rattle.effects.specs.Lookup.{known}
use Rattle.walk.specs.Walk.{called, calling}

-- no name of the parameters has a `)`, where they can be read
abbrev pub PlainNames : List ℕ → Type 0
PlainNames descriptor = (p : Params) → parameters descriptor ≡ Some p → NoneBefore descriptor p.end

-- such a call does what it does with the return behind the first `)`; where the parameters can't be read, no return is asked for
abbrev pub SameCalls : Type 0
SameCalls =
    (takes : ℕ) (descriptor : List ℕ) → PlainNames descriptor →
    calling takes (known descriptor) ≡ called takes (parameters descriptor) (first_return descriptor)
