-- The member lookup (document 01, "a member lookup hands back the part of the case").
-- Assumes nothing.
use Rattle.std.specs.Prelude.{ℕ, zero, suc, ◌-◌, List, [], eqb, take, drop}
use Rattle.basics.specs.Choice.{pick}
use Rattle.tables.specs.Member.{member_at, then_member}
use Rattle.tables.specs.declared.MemberPlace.{MemberPlace}

-- the bytes of a member's three texts
abbrev pub texts_of : List ℕ → MemberPlace → List ℕ
texts_of bytes place = take (place.next - place.texts) (drop place.texts bytes)

-- the texts of the member with a pool index and kind, among so many from a place on, whose indexes are above the last. None
-- where it "is missing, or of the other kind". Indexes rise, so the first with the index is the only one.
unfoldable pub member_found : List ℕ → ℕ → ℕ → ℕ → ℕ → ℕ → List ℕ
member_found bytes index kind zero last at = []
member_found bytes index kind (suc count) last at =
    then_member (member_at bytes last at) (λ place. []) (λ place.
    pick (eqb place.index index)
    (pick (eqb place.kind kind) (texts_of bytes place) [])
    (member_found bytes index kind count place.index place.next))
