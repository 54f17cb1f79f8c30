-- What the lenient readers answer of a whole descriptor (document 01, "Descriptors" and "Action and cause"; document 02, request 2).
-- Assumes nothing.
use Rattle.std.specs.Prelude.{ℕ, ◌+◌, Bool, List, eqb, leb, length, Option, Some, None}
use Rattle.basics.specs.Bytes.{byte_at}
use Rattle.basics.specs.Choice.{pick}
use Rattle.fieldtype.specs.Types.{is_wide, type_slots, Types, over, unread, one, types_of}
use Rattle.descriptor.specs.declared.Params.{Params}

-- ---- the parameters of a call

unfoldable pub slots_of : Types → ℕ
slots_of (over end) = 0
slots_of (unread at) = 0
slots_of (one t rest) = type_slots t + slots_of rest

-- all have to be readable
unfoldable pub judged : Types → ℕ → Option Params
judged (over end) slots = Some (record { slots = slots; end = end })
judged (unread at) slots = None
judged (one t rest) slots = judged rest slots

-- "starts with `(`; types until `)` or the end"
unfoldable pub parameters : List ℕ → Option Params
parameters text = pick (eqb (byte_at text 0) 40) (judged (types_of text) (slots_of (types_of text))) None

-- ---- the parameters of a signature: "skipping one byte, until one can't be read"

-- the number of the first parameter that starts at a slot
unfoldable pub starting_at : Types → ℕ → ℕ → ℕ → Option ℕ
starting_at (over end) first slot k = None
starting_at (unread at) first slot k = None
starting_at (one t rest) first slot k = pick (eqb first slot) (Some k) (starting_at rest (first + type_slots t) slot (k + 1))

-- "slots count from 0, or from 1 when not static, .. and K from 1"
unfoldable pub parameter_at : List ℕ → Bool → ℕ → Option ℕ
parameter_at text instance slot = starting_at (types_of text) (pick instance 1 0) slot 1

-- ---- the return

-- the index where parameters end that were read
abbrev pub end_of : Option Params → Option ℕ
end_of (Some p) = Some p.end
end_of None = None

-- "Read the parameters and take what follows the parenthesis that ends them." Without one they end with the text, where nothing
-- follows.
unfoldable pub closing : List ℕ → Option ℕ
closing text = end_of (parameters text)

-- "V 0, J or D 2, any other byte 1"
abbrev pub byte_slots : ℕ → ℕ
byte_slots x = pick (eqb x 86) 0 (pick (is_wide x) 2 1)

-- "no byte, or no `)`, fails"
unfoldable pub slots_behind : List ℕ → Option ℕ → Option ℕ
slots_behind text (Some close) =
    pick (leb (length text) (close + 1)) None (Some (byte_slots (byte_at text (close + 1))))
slots_behind text None = None

unfoldable pub return_slots : List ℕ → Option ℕ
return_slots text = slots_behind text (closing text)

-- ---- a field: "2 if it starts with J or D, else 1, also when empty"

unfoldable pub field_slots : List ℕ → ℕ
field_slots text = pick (is_wide (byte_at text 0)) 2 1
