-- Texts that are taken from a run of bytes are no longer than the run; the names of locals that their numbers make up are short.
-- Assumes nothing.
use Rattle.std.specs.Prelude.{Option, Some, None, Result, Ok, Err}
use Prim.Native.Nat.{ℕ, zero, suc, ◌+◌, ◌-◌, ◌≤◌}
use native.Mathlib.Omega.{arith}
use mathlib.Core.Bool.{Bool, true}
use mathlib.Core.List.{List, [], ◌∷◌, ◌++◌}
use lib.Dec.{T, eqb, leb, lit≤}
use lib.ListN.{length, take, drop, get_or, length-append, length-take, length-drop}
use Rattle.basics.specs.Ascii.{ascii}
use Rattle.basics.specs.Choice.{pick, both}
use Rattle.basics.proofs.Choice.{chosen}
use Rattle.basics.proofs.Every.{both_first, both_second}
use Rattle.items.specs.Text.{text_at, then_text, text_part}
use Rattle.tables.specs.LocalRecord.{records_in}
use Rattle.tables.specs.Member.{member_at, then_member}
use Rattle.tables.specs.declared.MemberPlace.{MemberPlace}
use Rattle.lookup.specs.Lookup.{texts_of, member_found}
use Rattle.search.specs.Search.{first_match}
use Rattle.locals.specs.Name.{signature_parameter, numbered_name, parameter_name, unnamed, name_by, local_name}
use Rattle.text.specs.Decimal.{decimal}
use Rattle.text.proofs.Decimal.{decimal_short}

-- a list is at most so long
abbrev pub Within : ℕ → List ℕ → Type 0
Within n l = length l ≤ n

pub none_within : (n : ℕ) → Within n []
none_within n = omega arith

-- each text of a list is at most so long
abbrev all_within : ℕ → List (List ℕ) → Bool
all_within n [] = true
all_within n (l ∷ ls) = both (leb (length l) n) (all_within n ls)

pub entry_within :
    (n : ℕ) (ls : List (List ℕ)) (other : List ℕ) → T (all_within n ls) → Within n other → (k : ℕ) →
    Within n (get_or ls k other)
entry_within n [] other all is k = is
entry_within n (l ∷ ls) other all is zero = lit≤ (both_first (leb (length l) n) (all_within n ls) all)
entry_within n (l ∷ ls) other all is (suc k) =
    entry_within n ls other (both_second (leb (length l) n) (all_within n ls) all) is k

-- ---- parts of a run

pub part_within : (size start : ℕ) (bytes : List ℕ) → Within (length bytes) (take size (drop start bytes))
part_within size start bytes = omega (arith, length-take size (drop start bytes), length-drop start bytes)

pub text-within : (bytes : List ℕ) (at : ℕ) → Within (length bytes) (text_part bytes at)
unfolding text_part
text-within bytes at = of (text_at bytes at)
  where
    of : (t : Option (ℕ × ℕ)) → Within (length bytes) (then_text t [] (λ start size. take size (drop start bytes)))
    of (Some (start, size)) = part_within size start bytes
    of None = none_within (length bytes)

pub found_within :
    (bytes : List ℕ) (index kind count last at : ℕ) → Within (length bytes) (member_found bytes index kind count last at)
unfolding member_found
found_within bytes index kind zero last at = none_within (length bytes)
found_within bytes index kind (suc count) last at =
    of (member_at bytes last at) (λ before next. found_within bytes index kind count before next)
  where
    of :
        (m : Result MemberPlace ℕ) → ((before next : ℕ) → Within (length bytes) (member_found bytes index kind count before next)) →
        Within (length bytes)
        (then_member m (λ place. []) (λ place.
        pick (eqb place.index index)
        (pick (eqb place.kind kind) (texts_of bytes place) [])
        (member_found bytes index kind count place.index place.next)))
    of (Ok place) rest =
        chosen (Within (length bytes)) (eqb place.index index)
        (pick (eqb place.kind kind) (texts_of bytes place) [])
        (member_found bytes index kind count place.index place.next)
        (chosen (Within (length bytes)) (eqb place.kind kind) (texts_of bytes place) []
        (part_within (place.next - place.texts) place.texts bytes) (none_within (length bytes)))
        (rest place.index place.next)
    of (Err place) rest = none_within (length bytes)

-- ---- the name of a local

numbered_within : (word : List ℕ) (n : ℕ) → Within 11 word → Within 40 (numbered_name word n)
unfolding numbered_name
numbered_within word n short =
    omega (arith, short, length-append (word ++ decimal n) (ascii ">"), length-append word (decimal n), decimal_short n)

parameter_within : (found : Option ℕ) (slot : ℕ) → Within 40 (parameter_name found slot)
parameter_within (Some k) slot = numbered_within (ascii "<parameter") k (lit≤ tt)
parameter_within None slot = numbered_within (ascii "<local") slot (lit≤ tt)

pub local_within :
    (records : List ℕ) (count : ℕ) (signature : List ℕ) (instance : Bool) (slot load : ℕ) →
    Within (length records + 40) (local_name records count signature instance slot load)
unfolding local_name
local_within records count signature instance slot load = of (first_match (records_in records count 0) slot load)
  where
    without : Within 40 (unnamed signature instance slot)
    without =
        let found = signature_parameter signature instance slot in
        chosen (Within 40) (both instance (eqb slot 0)) (ascii "this") (parameter_name found slot) (lit≤ tt)
        (parameter_within found slot)

    of : (place : Option (ℕ × ℕ)) → Within (length records + 40) (name_by place records signature instance slot)
    of (Some (from, to)) = omega (arith, part_within (to - from) from records)
    of None = omega (arith, without)
