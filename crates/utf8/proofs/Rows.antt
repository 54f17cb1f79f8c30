-- Texts that are judged and turned by computing: each form at its ends, and each breach.
-- Assumes nothing.
use Prim.Native.Nat.{ℕ}
use mathlib.Core.Bool.{Bool, true, false}
use mathlib.Core.List.{List, [], ◌∷◌}
use mathlib.Core.Path.{◌≡◌, refl}
use Rattle.basics.specs.Choice.{both, alike, same_list}
use Rattle.utf8.specs.Turning.{size_by, size_of, right_by, is_modified, turn_by, turn_of, turned_by, turned}

pub data Row : Type 0 where
  turning : List ℕ → List ℕ → Row
  refused : List ℕ → Row

abbrev pub holds : Row → Bool
holds (turning text utf8) = both (is_modified text) (same_list (turned text) utf8)
holds (refused text) = alike false (is_modified text)

abbrev pub all_hold : List Row → Bool
all_hold [] = true
all_hold (row ∷ rows) = both (holds row) (all_hold rows)

abbrev pub rows : List Row
rows =
    turning [] []
    -- the null character
    ∷ turning (192 ∷ 128 ∷ []) (0 ∷ [])
    ∷ turning (65 ∷ 127 ∷ 194 ∷ 128 ∷ 223 ∷ 191 ∷ []) (65 ∷ 127 ∷ 194 ∷ 128 ∷ 223 ∷ 191 ∷ [])
    ∷ turning (224 ∷ 160 ∷ 128 ∷ 239 ∷ 191 ∷ 191 ∷ []) (224 ∷ 160 ∷ 128 ∷ 239 ∷ 191 ∷ 191 ∷ [])
    -- a pair of surrogates, the first and the last
    ∷ turning (237 ∷ 160 ∷ 128 ∷ 237 ∷ 176 ∷ 128 ∷ []) (240 ∷ 144 ∷ 128 ∷ 128 ∷ [])
    ∷ turning (237 ∷ 175 ∷ 191 ∷ 237 ∷ 191 ∷ 191 ∷ []) (244 ∷ 143 ∷ 191 ∷ 191 ∷ [])
    -- lone ones: at the end, the second of a pair alone, two that lead, and one before a letter
    ∷ turning (237 ∷ 160 ∷ 128 ∷ []) (239 ∷ 191 ∷ 189 ∷ [])
    ∷ turning (237 ∷ 176 ∷ 128 ∷ []) (239 ∷ 191 ∷ 189 ∷ [])
    ∷ turning (237 ∷ 160 ∷ 128 ∷ 237 ∷ 160 ∷ 128 ∷ 237 ∷ 176 ∷ 128 ∷ []) (239 ∷ 191 ∷ 189 ∷ 240 ∷ 144 ∷ 128 ∷ 128 ∷ [])
    ∷ turning (237 ∷ 160 ∷ 128 ∷ 65 ∷ []) (239 ∷ 191 ∷ 189 ∷ 65 ∷ [])
    -- longer forms than needed, bytes that stand in no form, and forms that are cut
    ∷ refused (193 ∷ 129 ∷ [])
    ∷ refused (192 ∷ 129 ∷ [])
    ∷ refused (224 ∷ 159 ∷ 191 ∷ [])
    ∷ refused (0 ∷ [])
    ∷ refused (128 ∷ [])
    ∷ refused (240 ∷ 144 ∷ 128 ∷ 128 ∷ [])
    ∷ refused (255 ∷ [])
    ∷ refused (65 ∷ 194 ∷ [])
    ∷ refused (224 ∷ 160 ∷ [])
    ∷ refused (194 ∷ 65 ∷ [])
    ∷ []

pub all-hold : all_hold rows ≡ true
unfolding size_by size_of right_by is_modified turn_by turn_of turned_by turned
all-hold = refl
