-- The one outcome of a text, admissibility included. A text is accepted if its lines can be read and its statements are
-- admissible. It is refused for its lines, as Outcome has it; or else by 9, last of all, with the line of the first
-- statement that breaks its condition, and word 1.
use Rattle.std.specs.Prelude.{◌≡◌, ℕ, ◌⊎◌, List, Ok, Err, Result, slice_index}
use Rattle.rules.specs.Refusals.{refusal as at}
use Rattle.rules.specs.declared.refusals.Refusal.{Refusal}
use Rattle.rules.specs.declared.refusals.Reason.TheVariants as because
use Rattle.roles.specs.Roles.{Admissible, FirstBreaking}
use Rattle.ruletext.specs.Outcome.{Contents, by_text}

-- A refusal names the line of the first statement that breaks its condition.
pub record BreaksAt (s : Contents) (e : Refusal) : Type 0 where
  pub place : ℕ
  pub first : FirstBreaking s.statements place
  pub is : e ≡ at because.NotAdmissible (slice_index s.lines place) 1

-- The lines can be read, and a statement breaks its condition.
pub record Broken (text : List ℕ) (e : Refusal) : Type 0 where
  pub contents : Contents
  pub read : by_text text ≡ Ok contents
  pub breaks : BreaksAt contents e

-- A text has an outcome.
abbrev pub Means : List ℕ → Result Contents Refusal → Type 0
Means text (Ok s) = (by_text text ≡ Ok s) × Admissible s.statements
Means text (Err e) = (by_text text ≡ Err e) ⊎ Broken text e

-- No text has two.
abbrev pub OneOutcome : List ℕ → Type 0
OneOutcome text = (o p : Result Contents Refusal) → Means text o → Means text p → o ≡ p
