-- How long the names of types are, and the names of a descriptor's parameters together.
-- Assumes nothing.
use Rattle.std.specs.Prelude.{Option, Some, None}
use Prim.Native.Nat.{ℕ, zero, suc, ◌+◌, ◌*◌, ◌-◌, ◌≤◌}
use native.Mathlib.Nat.{suc-mul}
use native.Mathlib.Omega.{arith}
use mathlib.Core.Bool.{Bool, true, false}
use mathlib.Core.List.{List, [], ◌∷◌, ◌++◌}
use lib.Dec.{eqb}
use lib.ListN.{length, take, drop, length-append}
use Rattle.basics.specs.Ascii.{ascii}
use Rattle.basics.specs.Choice.{pick, same_list}
use Rattle.basics.proofs.Choice.{chosen}
use Rattle.bytesearch.specs.Search.{first_from}
use Rattle.fieldtype.specs.Types.{field_type_at, taken_inside, types_step, list_over, types_from, types_at, types_of}
use Rattle.fieldtype.specs.declared.FieldType.{FieldType}
use Rattle.fieldtype.proofs.Bounds.{taken-inside}
use Rattle.classname.specs.ClassName.{dotted, starts_with, class_name}
use Rattle.names.specs.Names.{base_names, name_at, base_name, element_name, bracket_pairs, type_name, type_names, commaed, joined, parameter_names}
use Rattle.classname.proofs.Bytewise.{dotted_length}
use Rattle.names.proofs.Bytewise.{pairs_length}
use Rattle.bounds.proofs.Texts.{Within, none_within, entry_within, part_within}

-- ---- one name

pub class_within : (name : List ℕ) → Within (length name + 6) (class_name name)
unfolding class_name
class_within name =
    let short = Within (length name + 6) in
    let plain = pick (starts_with 91 name) name (dotted name) in
    let other = pick (same_list name (ascii "java/lang/Object")) (ascii "Object") plain in
    let six : 6 ≤ length name + 6 = omega arith in
    chosen short (same_list name (ascii "java/lang/String")) (ascii "String") other six
    (chosen short (same_list name (ascii "java/lang/Object")) (ascii "Object") plain six
    (chosen short (starts_with 91 name) name (dotted name) (omega arith) (omega (arith, dotted_length name))))

base_within : (letter : ℕ) → Within 7 (base_name letter)
unfolding base_name base_names
base_within letter = of (first_from letter (ascii "BCDFIJSZ") 0)
  where
    of : (found : Option ℕ) → Within 7 (name_at found)
    of (Some k) = entry_within 7 base_names [] tt (none_within 7) k
    of None = none_within 7

element_within : (text : List ℕ) (t : FieldType) → Within (length text + 7) (element_name text t)
unfolding element_name
element_within text t =
    let name = take (t.to - t.from) (drop t.from text) in
    chosen (Within (length text + 7)) (eqb t.letter 76) (class_name name) (base_name t.letter)
    (omega (arith, class_within name, part_within (t.to - t.from) t.from text)) (omega (arith, base_within t.letter))

type_within : (text : List ℕ) (t : FieldType) → Within (length text + 7 + 2 * t.dims) (type_name text t)
unfolding type_name
type_within text t =
    omega (arith, length-append (element_name text t) (bracket_pairs t.dims), element_within text t, pairs_length t.dims)

-- ---- names one after the other

-- no name of a text with its comma is longer: a type that is read has fewer dimensions than the text has bytes
abbrev pub widest : List ℕ → ℕ
widest text = 3 * length text + 20

list_within : (text : List ℕ) (k at : ℕ) → Within (k * widest text) (commaed (type_names text (types_from text k at)))
unfolding types_from type_names commaed
list_within text zero at = none_within (0 * widest text)
list_within text (suc k) at =
    of (list_over text at) (field_type_at text at) (taken-inside text at) (λ next. list_within text k next)
  where
    of :
        (b : Bool) (taken : Option FieldType) → taken_inside taken text at →
        ((next : ℕ) → Within (k * widest text) (commaed (type_names text (types_from text k next)))) →
        Within (suc k * widest text) (commaed (type_names text (types_step b taken at (λ next. types_from text k next))))
    of true taken inside rest = none_within (suc k * widest text)
    of false (Some t) inside rest =
        let behind = commaed (type_names text (types_from text k t.next)) in
        let one : length (type_name text t ++ behind) ≤ k * widest text + 3 * length text + 7 =
        omega (
          arith,
          length-append (type_name text t) behind,
          type_within text t,
          inside.onward,
          inside.within,
          rest t.next,
        ) in
        omega (arith, length-append (ascii ", ") (type_name text t ++ behind), one, suc-mul k (widest text))
    of false None inside rest = none_within (suc k * widest text)

joined_within : (names : List (List ℕ)) (n : ℕ) → Within n (commaed names) → Within n (joined names)
unfolding commaed joined
joined_within [] n short = none_within n
joined_within (name ∷ names) n short = omega (arith, length-append (ascii ", ") (name ++ commaed names), short)

pub parameters_within : (text : List ℕ) → Within (length text * widest text) (parameter_names text)
unfolding parameter_names types_of types_at
parameters_within text =
    let size = length text in
    joined_within (type_names text (types_from text size 1)) (size * widest text) (list_within text size 1)
