-- `pool::read_text` meets its contract. Where the length is cut, so is what it would count.
-- Assumes nothing.
use Rattle.std.specs.Prelude.{Ok}
use Prim.Native.Nat.{ℕ, ◌+◌, ◌-◌}
use native.Mathlib.Omega.{arith}
use mathlib.Core.Path.{◌≡◌, ◌∙◌, sym, ap}
use mathlib.Core.Bool.{true, false}
use lib.ListN.{length}
use Rattle.basics.specs.Bytes.{u16_at}
use Rattle.utf8.specs.Turning.{is_modified}
use Rattle.format.specs.Format.{bytes_at}
use Rattle.pool.proofs.Entries.{cut_text, judged_text}
use Rattle.pool.proofs.read_text.Goals as goal

pub returns-then-file-at-lt2 : goal.returns-then-file-at-lt2
returns-then-file-at-lt2 c =
    let file = c.args.file.now in
    sym (cut_text file (length file) c.args.at (omega (arith, c.requires)))

pub returns-then-file-start : goal.returns-then-file-start
returns-then-file-start c =
    let file = c.args.file.now in
    sym (cut_text file (length file) c.args.at (omega (arith, c.requires, c.read_u16-size.ensures)))

pub returns-then-is_modified : goal.returns-then-is_modified
returns-then-is_modified c =
    let file = c.args.file.now in
    let at = c.args.at in
    let size : c.read_u16-size.result ≡ u16_at file at = c.read_u16-size.ensures.0 in
    let same : u16_at file at ≡ (at + 2 + c.read_u16-size.result) - (at + 2) = omega (arith, size) in
    let is : is_modified (bytes_at file (at + 2) (u16_at file at)) ≡ true =
    ap (λ (n : ℕ). is_modified (bytes_at file (at + 2) n)) same ∙ sym c.is_modified.ensures ∙ c.if-is_modified.true in
    ap (λ (n : ℕ). Ok (at + 2 + n)) size ∙ sym (judged_text file (length file) at true (omega (arith, size)) is)

pub returns : goal.returns
returns c =
    let file = c.args.file.now in
    let at = c.args.at in
    let size : c.read_u16-size.result ≡ u16_at file at = c.read_u16-size.ensures.0 in
    let same : u16_at file at ≡ (at + 2 + c.read_u16-size.result) - (at + 2) = omega (arith, size) in
    let is : is_modified (bytes_at file (at + 2) (u16_at file at)) ≡ false =
    ap (λ (n : ℕ). is_modified (bytes_at file (at + 2) n)) same ∙ sym c.is_modified.ensures ∙ c.if-is_modified.false in
    sym (judged_text file (length file) at false (omega (arith, size)) is)
