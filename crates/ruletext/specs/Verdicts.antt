-- What the program says of an input. An input of over 16,384 bytes is refused as one count too many, at line 0 and word 0;
-- any other is judged as a rule text.
use Rattle.std.specs.Prelude.{◌≡◌, ℕ, ◌<◌, ◌≤◌, List, length, Ok, Err, Result}
use Rattle.rules.specs.Refusals.{refusal}
use Rattle.rules.specs.declared.counts.Counts.{Counts}
use Rattle.rules.specs.declared.refusals.Refusal.{Refusal}
use Rattle.rules.specs.declared.refusals.Reason.TheVariants as because
use Rattle.ruletext.specs.Outcome.{Contents, nothing}
use Rattle.ruletext.specs.Means.{Means}
use Rattle.ruletext.specs.Reading.{Counted}

-- The outcome of an input.
pub record Judged (input : List ℕ) (o : Result Contents Refusal) : Type 0 where
  pub long : 16384 < length input → o ≡ Err (refusal because.CountOutOfLimits 0 0)
  pub text : length input ≤ 16384 → Means input o

-- What a call that judges an input answers, and what has been read afterwards: the counts of what was read, or the refusal.
abbrev pub Told : List ℕ → Result Counts Refusal → Contents → Type 0
Told input (Ok c) after = Judged input (Ok after) × Counted c after
Told input (Err e) after = Judged input (Err e) × (after ≡ nothing)
