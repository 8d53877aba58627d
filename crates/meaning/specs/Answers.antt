-- What the answers of a finished book mean, a line for each answer.
use Rattle.std.specs.Prelude.{◌≡◌, ℕ, ◌<◌, Bool, true, false, List}
use Rattle.rules.specs.declared.statements.Statement.{Statement}
use Rattle.calculus.specs.Tests.{Decides}
use Rattle.calculus.specs.declared.terms.Fact.{Fact}
use Rattle.meaning.specs.Interpretations.{Interpretation, SatisfiesAll}
use Rattle.meaning.specs.Theorems.{is_in, Finished, Clash, Always, SmallModel, LeavesOut}
use Rattle.meaning.specs.declared.answers.Answer.{Answer}
use Rattle.meaning.specs.declared.answers.Answer.TheVariants as answer
use Rattle.meaning.specs.declared.answers.Verdict.{Verdict}
use Rattle.meaning.specs.declared.answers.Verdict.TheVariants as verdict

-- Yes exactly for a marked fact.
abbrev pub answer_for : Bool → Answer
answer_for true = answer.Yes
answer_for false = answer.No

-- Clash exactly where the class of some form-c statement has a marked first term.
abbrev pub verdict_for : Bool → Verdict
verdict_for true = verdict.Clash
verdict_for false = verdict.Sound

abbrev pub AnswerMeans : (n : ℕ) → List Statement → (x C : ℕ) → Answer → Type 0
AnswerMeans n ss x C answer.Yes = Always n ss x C
AnswerMeans n ss x C answer.No = LeavesOut n ss x C

abbrev pub VerdictMeans : (n : ℕ) → List Statement → Verdict → Type 0
VerdictMeans n ss verdict.Sound = SmallModel n ss
VerdictMeans n ss verdict.Clash = (I : Interpretation n) → ¬ SatisfiesAll I ss

-- In every finished book, whichever individual and class are asked for, the answer by the mark means what it should.
abbrev pub AnswerRight : Bool → Answer → Type 0
AnswerRight mark given = (n k r : ℕ) (ss : List Statement) (marked : Fact → Bool) → Finished n k r ss marked → (x C : ℕ) → x < n → C < k → marked (is_in x C) ≡ mark → AnswerMeans n ss x C given

-- In every finished book the verdict by its clash means what it should.
abbrev pub VerdictRight : Bool → Verdict → Type 0
VerdictRight found given = (n k r : ℕ) (ss : List Statement) (marked : Fact → Bool) → Finished n k r ss marked → Decides found (Clash ss marked) → VerdictMeans n ss given
