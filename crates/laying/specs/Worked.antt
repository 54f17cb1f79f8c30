-- Worked items: the bytes of numbers around each limit of a group, and of a text. Proved in proofs/Worked.antt.
-- Assumes nothing.
use Rattle.std.specs.Prelude.{◌≡◌, [], ◌∷◌}
use Rattle.number.specs.Number.{number_bytes}
use Rattle.items.specs.Text.{text_bytes}

pub record Worked : Type 0 where
  pub zero : number_bytes 0 ≡ 0x00 ∷ []
  -- the greatest of one group, the least of two
  pub one_group : number_bytes 127 ≡ 0x7f ∷ []
  pub two_groups : number_bytes 128 ≡ 0x80 ∷ 0x01 ∷ []
  -- 300 is 44 + 2 * 128: the low group stands first
  pub low_first : number_bytes 300 ≡ 0xac ∷ 0x02 ∷ []
  -- the greatest of two groups, the least of three
  pub still_two : number_bytes 16383 ≡ 0xff ∷ 0x7f ∷ []
  pub three_groups : number_bytes 16384 ≡ 0x80 ∷ 0x80 ∷ 0x01 ∷ []
  -- the greatest number of a case
  pub greatest : number_bytes 65535 ≡ 0xff ∷ 0xff ∷ 0x03 ∷ []
  -- a text without bytes, and one of three: abc
  pub no_text : text_bytes [] ≡ 0x00 ∷ []
  pub text : text_bytes (0x61 ∷ 0x62 ∷ 0x63 ∷ []) ≡ 0x03 ∷ 0x61 ∷ 0x62 ∷ 0x63 ∷ []
