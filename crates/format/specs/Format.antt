-- A format: what is due in a file, item by item, and what comes of it. Items are big-endian numbers, texts (a length and so many bytes)
-- and windows (a length, and items that fill so many bytes). Each ends at or before a limit: the end of the file, or of the window that it
-- stands in. A file is read from the left, and its first wrong item is where what is due does not stand.
-- Assumes nothing.
use Rattle.std.specs.Prelude.{ℕ, zero, suc, ◌+◌, ◌*◌, ◌^◌, Bool, true, false, List, [], ◌∷◌, leb, take, drop}
use Rattle.basics.specs.Bytes.{byte_at}
use Rattle.basics.specs.Choice.{both}

pub data Format (A : Type 0) : Type 0 where
  -- a number of so many bytes, before a limit, that passes a test
  number : (width limit : ℕ) → (ℕ → Bool) → (ℕ → Format A) → Format A
  -- a length of so many bytes and that many bytes, before a limit, which pass a test; where they start is told, and how many they are
  text : (width limit : ℕ) → (ℕ → List ℕ → Bool) → (ℕ → ℕ → Format A) → Format A
  -- a length of so many bytes, behind which that many lie before the limit; where they end is told
  window : (width limit : ℕ) → (ℕ → Format A) → Format A
  -- nothing more before a limit
  full : (limit : ℕ) → Format A → Format A
  -- the place itself is told
  here : (ℕ → Format A) → Format A
  done : A → Format A

-- one format after the other
unfoldable pub and_then : {A B : Type 0} → Format A → (A → Format B) → Format B
and_then (number width limit ok following) rest = number width limit ok (λ v. and_then (following v) rest)
and_then (text width limit ok following) rest = text width limit ok (λ start size. and_then (following start size) rest)
and_then (window width limit following) rest = window width limit (λ stop. and_then (following stop) rest)
and_then (full limit following) rest = full limit (and_then following rest)
and_then (here following) rest = here (λ at. and_then (following at) rest)
and_then (done a) rest = rest a

-- a format so many times, one behind the other
unfoldable pub times : {A : Type 0} → ℕ → Format A → Format (List A)
times zero one = done []
times (suc n) one = and_then one (λ a. and_then (times n one) (λ more. done (a ∷ more)))

-- a format so many times, each by what came of those before it
unfoldable pub each : {A : Type 0} → ℕ → (A → Format A) → A → Format A
each zero one a = done a
each (suc n) one a = and_then (one a) (λ b. each n one b)

-- ---- reading

-- the number of so many bytes at a place, most significant first
unfoldable pub number_at : ℕ → List ℕ → ℕ → ℕ
number_at zero file at = 0
number_at (suc width) file at = byte_at file at * 256 ^ width + number_at width file (at + 1)

-- so many bytes from a place on
abbrev pub bytes_at : List ℕ → ℕ → ℕ → List ℕ
bytes_at file start size = take size (drop start file)

-- what reading answers: what came of it and the place after it, or the place of the first wrong item
pub data Reading (A : Type 0) : Type 0 where
  right : A → ℕ → Reading A
  wrong : ℕ → Reading A

abbrev pub then_read : {A B : Type 0} → Reading A → (A → ℕ → Reading B) → Reading B
then_read (right a next) following = following a next
then_read (wrong place) following = wrong place

-- an item that is right or wrong, its place, and what is due at the place after it
abbrev pub go_on : {A : Type 0} → Bool → ℕ → ℕ → (ℕ → Reading A) → Reading A
go_on true at next following = following next
go_on false at next following = wrong at

-- ---- what is right at a place

abbrev pub number_right : ℕ → ℕ → (ℕ → Bool) → List ℕ → ℕ → Bool
number_right width limit ok file at = both (leb (at + width) limit) (ok (number_at width file at))

abbrev pub window_right : ℕ → ℕ → List ℕ → ℕ → Bool
window_right width limit file at = leb (at + width + number_at width file at) limit

abbrev pub text_right : ℕ → ℕ → (ℕ → List ℕ → Bool) → List ℕ → ℕ → Bool
text_right width limit ok file at =
    both (window_right width limit file at) (ok (number_at width file at) (bytes_at file (at + width) (number_at width file at)))

unfoldable pub read_by : {A : Type 0} → Format A → List ℕ → ℕ → Reading A
read_by (number width limit ok following) file at =
    go_on (number_right width limit ok file at) at (at + width) (λ next. read_by (following (number_at width file at)) file next)
read_by (text width limit ok following) file at =
    go_on (text_right width limit ok file at) at (at + width + number_at width file at)
    (λ next. read_by (following (at + width) (number_at width file at)) file next)
read_by (window width limit following) file at =
    go_on (window_right width limit file at) at (at + width)
    (λ next. read_by (following (at + width + number_at width file at)) file next)
read_by (full limit following) file at = go_on (leb limit at) at at (λ next. read_by following file next)
read_by (here following) file at = read_by (following at) file at
read_by (done a) file at = right a at
