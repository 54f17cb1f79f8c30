-- The first wrong item of a file by any format, declared (document 02, request 3: "6 for a file not of that layout, with the offset of its
-- first wrong item"; document 01: "A wrong item's offset is that of its first byte; a text starts at its length number; excess bytes at the
-- first one"). The statements are proved in proofs/ of this crate, once for every format.
-- Assumes nothing.
use Rattle.std.specs.Prelude.{ℕ, ◌+◌, ◌≤◌, ◌<◌, Bool, true, false, List, ◌≡◌}
use Rattle.format.specs.Format.{Format, number, text, window, full, here, done, and_then, number_at, bytes_at, read_by, right, wrong, then_read}

module _ {A : Type 0} (file : List ℕ) (from : ℕ) (format : Format A) where
  -- from a place on come whole right items, in order, up to another place, and this is what is due from there on
  pub data Reached : Format A → ℕ → Type 0 where
    start : Reached format from
    after_number :
        {width limit at : ℕ} {ok : ℕ → Bool} {following : ℕ → Format A} → Reached (number width limit ok following) at →
        at + width ≤ limit → ok (number_at width file at) ≡ true → Reached (following (number_at width file at)) (at + width)
    after_text :
        {width limit at : ℕ} {ok : ℕ → List ℕ → Bool} {following : ℕ → ℕ → Format A} → Reached (text width limit ok following) at →
        at + width + number_at width file at ≤ limit →
        ok (number_at width file at) (bytes_at file (at + width) (number_at width file at)) ≡ true →
        Reached (following (at + width) (number_at width file at)) (at + width + number_at width file at)
    after_length :
        {width limit at : ℕ} {following : ℕ → Format A} → Reached (window width limit following) at →
        at + width + number_at width file at ≤ limit → Reached (following (at + width + number_at width file at)) (at + width)
    after_all : {limit at : ℕ} {following : Format A} → Reached (full limit following) at → limit ≤ at → Reached following at
    told : {at : ℕ} {following : ℕ → Format A} → Reached (here following) at → Reached (following at) at

  -- what is due at a place does not stand there: it is cut by its limit, or it breaks its rule, or there is a byte in excess
  pub data Breach : Format A → ℕ → Type 0 where
    cut_number :
        {width limit at : ℕ} {ok : ℕ → Bool} {following : ℕ → Format A} → limit < at + width → Breach (number width limit ok following) at
    bad_number :
        {width limit at : ℕ} {ok : ℕ → Bool} {following : ℕ → Format A} → at + width ≤ limit → ok (number_at width file at) ≡ false →
        Breach (number width limit ok following) at
    cut_text :
        {width limit at : ℕ} {ok : ℕ → List ℕ → Bool} {following : ℕ → ℕ → Format A} → limit < at + width + number_at width file at →
        Breach (text width limit ok following) at
    bad_text :
        {width limit at : ℕ} {ok : ℕ → List ℕ → Bool} {following : ℕ → ℕ → Format A} → at + width + number_at width file at ≤ limit →
        ok (number_at width file at) (bytes_at file (at + width) (number_at width file at)) ≡ false →
        Breach (text width limit ok following) at
    cut_window :
        {width limit at : ℕ} {following : ℕ → Format A} → limit < at + width + number_at width file at →
        Breach (window width limit following) at
    excess : {limit at : ℕ} {following : Format A} → at < limit → Breach (full limit following) at

  pub record FirstWrong (offset : ℕ) : Type 0 where
    pub due : Format A
    pub reached : Reached due offset
    pub breach : Breach due offset

  -- all items are right, and this comes of them
  abbrev pub AllRight : A → ℕ → Type 0
  AllRight a end = Reached (done a) end

-- ---- the statements

pub record ReadingDeclared : Type 1 where
  pub means :
      {A : Type 0} (format : Format A) (file : List ℕ) (from offset : ℕ) → read_by format file from ≡ wrong offset →
      FirstWrong file from format offset
  pub only :
      {A : Type 0} (format : Format A) (file : List ℕ) (from offset : ℕ) → FirstWrong file from format offset →
      read_by format file from ≡ wrong offset
  pub accepts :
      {A : Type 0} (format : Format A) (file : List ℕ) (from : ℕ) (a : A) (end : ℕ) → read_by format file from ≡ right a end →
      AllRight file from format a end
  pub accepted :
      {A : Type 0} (format : Format A) (file : List ℕ) (from : ℕ) (a : A) (end : ℕ) → AllRight file from format a end →
      read_by format file from ≡ right a end
  pub joins :
      {A B : Type 0} (format : Format A) (rest : A → Format B) (file : List ℕ) (at : ℕ) →
      read_by (and_then format rest) file at ≡ then_read (read_by format file at) (λ a next. read_by (rest a) file next)
