-- Why a trial in lent words marked nothing, and what became of the words.
--
-- The row ws stood there before, and the row vs stands there afterwards.
use Rattle.std.specs.Prelude.{◌≡◌, ℕ, ◌*◌, ◌<◌, List, length, codes}
use Rattle.marks.specs.Rows.{Filled}
use Rattle.markdemo.specs.declared.refused.Refused.{Refused}
use Rattle.markdemo.specs.declared.refused.Refused.TheVariants.{TooFewWords, LimitTooLow}

-- TooFewWords: there are fewer bits than the limit asks for, and the words are as they were.
-- LimitTooLow: the limit is below the bound of the rule set, and the words are cleared.
abbrev pub Means : Refused → (bound limit : ℕ) → (ws vs : List ℕ) → Type 0
Means TooFewWords bound limit ws vs = (64 * length ws < limit) × (vs ≡ ws)
Means LimitTooLow bound limit ws vs = (limit < bound) × Filled 0 ws vs

-- what is printed of each
abbrev pub refused_text : Refused → List ℕ
refused_text TooFewWords = codes "too few words"
refused_text LimitTooLow = codes "limit too low"
