-- The lenient readers and the grammar of JVMS 4.3 agree on every well-formed descriptor, as statements. proofs/Agree.antt has a
-- proof of each.
-- Assumes nothing.
use Rattle.std.specs.Prelude.{ℕ, ◌+◌, ◌-◌, ◌≡◌, List, [], ◌∷◌, length, take, drop, Some}
use Rattle.descriptor.specs.Readers.{parameters, return_slots, field_slots}
use Rattle.fieldtype.specs.Types.{Types, over, one, types_of}
use Rattle.fieldtype.specs.declared.FieldType.{FieldType}
use Rattle.jvms.specs.Descriptor.{letter, base, class, array, MethodType, render, render_all, render_method, dimensions}
use Rattle.jvms.specs.Descriptor.{WellFormed, WellFormedMethod, slots, slots_all}
use Rattle.jvms.specs.Descriptor.{FieldType as Tree, return_slots as tree_return_slots}

-- what a type says: the letter of its element, its dimensions, and the bytes of its class name
pub record Told : Type 0 where
  pub letter : ℕ
  pub dims : ℕ
  pub name : List ℕ

-- a type that was read
abbrev pub told : List ℕ → FieldType → Told
told text t = record { letter = t.letter; dims = t.dims; name = take (t.to - t.from) (drop t.from text) }

-- types that were read up to a `)` at an index; nothing else is a list of parameters
pub data Listed (text : List ℕ) : Types → List Told → ℕ → Type 0 where
  none : {end : ℕ} → Listed text (over end) [] end
  more :
      {t : FieldType} {rest : Types} {tolds : List Told} {end : ℕ} →
      Listed text rest tolds end → Listed text (one t rest) (told text t ∷ tolds) end

-- a type of the grammar
abbrev pub letter_of : Tree → ℕ
letter_of (base b) = letter b
letter_of (class name) = 76
letter_of (array t) = letter_of t

abbrev pub name_of : Tree → List ℕ
name_of (base b) = []
name_of (class name) = name
name_of (array t) = name_of t

abbrev pub tree_told : Tree → Told
tree_told t = record { letter = letter_of t; dims = dimensions t; name = name_of t }

abbrev pub trees_told : List Tree → List Told
trees_told [] = []
trees_told (t ∷ ts) = tree_told t ∷ trees_told ts

-- ---- the statements

-- where the parameters of a written method end
abbrev pub closing_at : MethodType → ℕ
closing_at m = 1 + length (render_all m.parameters)

pub record LenientAgrees : Type 0 where
  pub same_types :
      (m : MethodType) → WellFormedMethod m →
      Listed (render_method m) (types_of (render_method m)) (trees_told m.parameters) (closing_at m)
  pub same_slots :
      (m : MethodType) → WellFormedMethod m →
      parameters (render_method m) ≡ Some (record { slots = slots_all m.parameters; end = closing_at m })
  pub same_return : (m : MethodType) → WellFormedMethod m → return_slots (render_method m) ≡ Some (tree_return_slots m.result)
  pub same_field : (t : Tree) → WellFormed t → field_slots (render t) ≡ slots t
