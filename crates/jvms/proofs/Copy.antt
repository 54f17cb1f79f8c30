-- aload_0, astore_1, aload_1: local 0 is on top of the entering stack, and in local 1.
-- Assumes nothing.
use Prim.Native.Nat.{ℕ}
use mathlib.Core.Path.{◌≡◌, refl, ◌∙◌, ap₂}
use mathlib.Core.List.{List, [], ◌∷◌, ◌++◌}
use Rattle.jvms.specs.Extent.{extent_at}
use Rattle.jvms.specs.Format.{formats, format_of}
use Rattle.jvms.specs.Laws.{copied}
use Rattle.jvms.specs.Machine.{Pool, State, next, ran}
use Rattle.jvms.specs.Stack.{entries, entry_of}
use Rattle.jvms.proofs.Loads.{loads-one}
use Rattle.jvms.proofs.Stores.{stores-one}

module _ {Val : Type 0} (pool : Pool) (opaque : ℕ → ℕ → Val) (entering : List Val) (locals : ℕ → Val) where
  abbrev code : List ℕ
  code = 0x2a ∷ 0x4c ∷ 0x2b ∷ []

  abbrev step : State Val → State Val
  step = next pool code opaque

  pub copies :
      ((copied pool opaque entering locals).stack ≡ entering ++ (locals 0 ∷ []))
      × ((copied pool opaque entering locals).locals 1 ≡ locals 0) × ((copied pool opaque entering locals).pc ≡ 3)
  unfolding ran extent_at formats format_of entries entry_of
  copies =
      let start : State Val = record { pc = 0; stack = entering; locals = locals } in
      let loaded = loads-one pool code opaque start tt in
      let stored = stores-one pool code opaque (step start) entering (locals 0) tt loaded.0 in
      let again = (loads-one pool code opaque (step (step start)) tt).0 in
      (again ∙ ap₂ (λ (s : List Val) (v : Val). s ++ (v ∷ [])) stored.0 stored.1.there, stored.1.there, refl)
