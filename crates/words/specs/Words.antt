-- The phrases that a message is made of (document 01, "Action and cause"), in a wording (document 02, request 11).
-- Assumes nothing.
use Rattle.std.specs.Prelude.{ℕ, List, [], ◌∷◌, ◌++◌, get_or}
use Rattle.basics.specs.Ascii.{ascii}
use Rattle.items.specs.Text.{class_of, name_of, descriptor_of}
use Rattle.classname.specs.ClassName.{class_name}
use Rattle.names.specs.Names.{parameter_names}
use Rattle.words.specs.Wording.{byte_text}
use Rattle.words.specs.declared.Wording.{Wording}

-- "T is int, long, float, double, object, byte, char, short in opcode order", with the wording's own word for byte
abbrev pub element_texts : Wording → List (List ℕ)
element_texts wording =
    ascii "int" ∷ ascii "long" ∷ ascii "float" ∷ ascii "double" ∷ ascii "object" ∷ byte_text wording ∷ ascii "char" ∷ []

unfoldable pub element_text : Wording → ℕ → List ℕ
element_text wording element = get_or (element_texts wording) element (ascii "short")

-- words and a name in quotes
unfoldable pub quoted : List ℕ → List ℕ → List ℕ
quoted words name = words ++ ascii "\"" ++ name ++ ascii "\""

-- "C.M", of the part that holds a method's texts
unfoldable pub method_text : List ℕ → List ℕ
method_text texts = class_name (class_of texts) ++ ascii "." ++ name_of texts

-- "Cannot invoke "C.M(P, P)""
unfoldable pub invoke_text : List ℕ → List ℕ
invoke_text texts = ascii "Cannot invoke \"" ++ method_text texts ++ ascii "(" ++ parameter_names (descriptor_of texts) ++ ascii ")\""

unfoldable pub array_text : Wording → List ℕ → ℕ → List ℕ
array_text wording words element = words ++ element_text wording element ++ ascii " array"
