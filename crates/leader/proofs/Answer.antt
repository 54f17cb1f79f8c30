-- An answer is told by its numbers.
-- Assumes nothing.
use Rattle.std.specs.Prelude.{Result, Ok, Err}
use mathlib.Core.Path.{◌≡◌, ap₂}
use Rattle.leader.specs.Scan.{numbered, led_to, stopped_at}
use Rattle.leader.specs.declared.Scanned.{Scanned}

pub numbered_injective : (one another : Result Scanned Scanned) → numbered one ≡ numbered another → one ≡ another
unfolding numbered
numbered_injective (Ok s) (Ok t) e =
    let place : s.at ≡ t.at = cc in
    let counted : s.count ≡ t.count = cc in
    ap₂ led_to place counted
numbered_injective (Ok s) (Err t) e = absurd cc
numbered_injective (Err s) (Ok t) e = absurd cc
numbered_injective (Err s) (Err t) e =
    let place : s.at ≡ t.at = cc in
    let counted : s.count ≡ t.count = cc in
    ap₂ stopped_at place counted
