-- What the readers of methods tell.
-- Assumes nothing.
use Rattle.std.specs.Prelude.{ℕ, Option, Result, Some, None}
use Rattle.format.specs.Format.{Format, and_then, times, Reading}
use Rattle.format.specs.Items.{told_by}
use Rattle.classformat.specs.Contents.{Body, bodiless, coded, Method}
use Rattle.bodies.specs.Body.{place_of}
use Rattle.bodies.specs.declared.CodePlace.{CodePlace}
use Rattle.methods.specs.declared.MethodPlace.{MethodPlace}

-- the code, by its places
abbrev pub body_place : Body → Option CodePlace
body_place bodiless = None
body_place (coded code) = Some (place_of code)

abbrev pub body_told : Reading Body → Result (Option CodePlace × ℕ) ℕ
body_told r = told_by (λ found end. (body_place found, end)) r

abbrev pub method_place : Method → ℕ → MethodPlace
method_place m end = record { flags = m.flags; name = m.name; descriptor = m.descriptor; body = body_place m.body; next = end }

abbrev pub method_told : Reading Method → Result MethodPlace ℕ
method_told r = told_by method_place r

-- one behind so many others
abbrev pub method_behind : ℕ → Format Method → Format Method
method_behind place one = and_then (times place one) (λ before. one)
