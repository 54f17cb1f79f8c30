-- How long a member run of one is at most.
-- Assumes nothing.
use Rattle.std.specs.Prelude.{ℕ}

-- ten bytes for an index of 64 bits and three for a kind; three texts of a class file, of 65,535 bytes each and three for their length
abbrev pub longest_run : ℕ
longest_run = 196627
