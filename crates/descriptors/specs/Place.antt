-- Where a return stands (document 02, request 2), and where document 01 looked for it, as statements. proofs/Place.antt has a proof
-- of each.
-- Assumes nothing.
use Rattle.std.specs.Prelude.{ℕ, ◌+◌, ◌≤◌, ◌<◌, ◌≡◌, List, [], ◌∷◌, eqb, length, take, Option, Some, None}
use Rattle.basics.specs.Bytes.{byte_at}
use Rattle.basics.specs.Choice.{pick}
use Rattle.descriptor.specs.Readers.{parameters, closing, byte_slots, slots_behind, return_slots}
use Rattle.descriptor.specs.declared.Params.{Params}
use Rattle.bytesearch.specs.Search.{first_from}
use Rattle.jvms.specs.Descriptor.{MethodType, render_method, WellFormedMethod}
use Rattle.jvms.specs.Descriptor.{return_slots as tree_return_slots}

-- ---- rules for the place

-- document 01: "Return slots follow the first `)` anywhere in the text"
unfoldable pub first_place : List ℕ → Option ℕ
first_place text = first_from 41 text 0

abbrev pub first_return : List ℕ → Option ℕ
first_return text = slots_behind text (first_place text)

-- the last one
abbrev later_of : Option ℕ → Option ℕ → Option ℕ
later_of (Some later) here = Some later
later_of None here = here

abbrev last_in : ℕ → List ℕ → ℕ → Option ℕ
last_in byte [] at = None
last_in byte (x ∷ xs) at = later_of (last_in byte xs (at + 1)) (pick (eqb x byte) (Some at) None)

abbrev pub last_place : List ℕ → Option ℕ
last_place text = last_in 41 text 0

-- what stands behind the place is the return, in every well-formed descriptor
abbrev pub Returns : (List ℕ → Option ℕ) → Type 0
Returns place =
    (m : MethodType) → WellFormedMethod m →
    slots_behind (render_method m) (place (render_method m)) ≡ Some (tree_return_slots m.result)

-- how often a byte occurs
abbrev pub occurs : ℕ → List ℕ → ℕ
occurs byte [] = 0
occurs byte (x ∷ xs) = pick (eqb x byte) 1 0 + occurs byte xs

-- no `)` stands before an index; before the end of parameters none stands but in names
abbrev pub NoneBefore : List ℕ → ℕ → Type 0
NoneBefore text end = occurs 41 (take end text) ≡ 0

-- ---- the statements

pub record ReturnPlace : Type 0 where
  -- the return stands behind the end of the parameters (this is `same_return`, by the place), and neither behind the first `)` nor
  -- behind the last
  pub the_end : Returns closing
  pub not_the_first : Returns first_place → ⊥
  pub not_the_last : Returns last_place → ⊥
  -- parameters that were read end at a parenthesis or with the text
  pub ends_at_parenthesis : (text : List ℕ) (p : Params) → parameters text ≡ Some p → p.end < length text → byte_at text p.end ≡ 41
  pub ends_inside : (text : List ℕ) (p : Params) → parameters text ≡ Some p → p.end ≤ length text
  -- so there is a return exactly where a byte follows a parenthesis that ends them, and that byte tells its slots
  pub none_unread : (text : List ℕ) → parameters text ≡ None → return_slots text ≡ None
  pub none_behind :
      (text : List ℕ) (p : Params) → parameters text ≡ Some p → length text ≤ p.end + 1 → return_slots text ≡ None
  pub byte_behind :
      (text : List ℕ) (p : Params) → parameters text ≡ Some p → p.end + 1 < length text →
      return_slots text ≡ Some (byte_slots (byte_at text (p.end + 1)))
  -- where they end at the first `)` the return is document 01's; so it is of any that were read with plain names, without a `)`, and
  -- only with such they end at the first
  pub same_at_first :
      (text : List ℕ) (p : Params) → parameters text ≡ Some p → first_place text ≡ Some p.end → return_slots text ≡ first_return text
  pub same_if_plain :
      (text : List ℕ) (p : Params) → parameters text ≡ Some p → NoneBefore text p.end → return_slots text ≡ first_return text
  pub plain_if_first : (text : List ℕ) (end : ℕ) → first_place text ≡ Some end → NoneBefore text end
