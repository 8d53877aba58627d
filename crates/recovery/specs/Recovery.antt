-- The two parts of a recovery file: the header whole, and the entries. Whatever bytes are handed in, they are cut into
-- the two parts, or refused:
--   13   the directory is wrong                                        place: the first wrong part, from 1
--   14   the length of the entries is not a multiple of fourteen       place: 2
use Rattle.std.specs.Prelude.{◌≡◌, ℕ, cond, not, ◌&&◌, List, length, None, Option, ◌==◌}
use Rattle.rules.specs.declared.refusals.Refusal.{Refusal}
use Rattle.headers.specs.Bytes.{even}
use Rattle.headers.specs.Header.{starts, end, part, wrong_directory, wrong_content}

abbrev pub recovery_refusal : List ℕ → Option Refusal
recovery_refusal b =
    cond (not (starts b 0 16)) (wrong_directory 1)
    (cond (not (starts b 1 (end b 0) && end b 1 == length b)) (wrong_directory 2)
    (cond (not (even 14 (part b 1))) (wrong_content 2) None))

-- The two parts of a file that is not refused.
pub record CutRecovery (b header entries : List ℕ) : Type 0 where
  pub right : recovery_refusal b ≡ None
  pub header' : header ≡ part b 0
  pub entries' : entries ≡ part b 1
