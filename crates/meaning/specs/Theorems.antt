-- What is proved of a book of n individuals, k classes and r roles with the standing statements ss. A fact with a proof
-- tree holds in every satisfying interpretation. When marking is done, the answer yes is what every satisfying
-- interpretation says, no has a small satisfying interpretation that leaves the individual out, and a clash means that
-- nothing satisfies the statements. Small is at most n + 2e things, where e statements have form j.
use Rattle.std.specs.Prelude.{ℕ, ◌+◌, ◌*◌, ◌<◌, Bool, cond, T, ◌↔◌, List, [], ◌∷◌, ◌==◌}
use Rattle.rules.specs.Statements.{letter_of}
use Rattle.rules.specs.declared.statements.Statement.{Statement}
use Rattle.rules.specs.declared.statements.Statement.TheVariants.{Empty}
use Rattle.calculus.specs.Trees.{Closed, Done}
use Rattle.calculus.specs.Places.{At, AllWellFormed}
use Rattle.roles.specs.Roles.{Admissible}
use Rattle.calculus.specs.Steps.{Follows, HasTree}
use Rattle.calculus.specs.declared.terms.First.{First}
use Rattle.calculus.specs.declared.terms.First.TheVariants as first
use Rattle.calculus.specs.declared.terms.Second.TheVariants as second
use Rattle.calculus.specs.declared.terms.Fact.{Fact}
use Rattle.calculus.specs.declared.terms.Fact.TheVariants.{Instance}
use Rattle.meaning.specs.Interpretations.{Interpretation, InClass, SatisfiesAll, AtMost}
use Rattle.meaning.specs.Meanings.{Says}

-- The fact that the individual x is in the class C.
abbrev pub is_in : ℕ → ℕ → Fact
is_in x C = Instance (first.Individual x) (second.Class C)

-- How many statements have form j; 106 is the code of its letter.
abbrev pub count_j : List Statement → ℕ
count_j [] = 0
count_j (s ∷ ss) = cond (letter_of s == 106) (1 + count_j ss) (count_j ss)

-- The statements are well formed and admissible, and there is an individual.
pub record Proper (n k r : ℕ) (ss : List Statement) : Type 0 where
  pub well_formed : AllWellFormed n k r ss
  pub admissible : Admissible ss
  pub some_individual : 0 < n

-- Marking is done for proper statements.
pub record Finished (n k r : ℕ) (ss : List Statement) (marked : Fact → Bool) : Type 0 where
  pub proper : Proper n k r ss
  pub done : Done (Follows n k ss) marked

-- The class of some form-c statement has a marked first term.
pub record Clash (ss : List Statement) (marked : Fact → Bool) : Type 0 where
  pub place : ℕ
  pub class : ℕ
  pub member : First
  pub empty : At ss place (Empty class)
  pub found : T (marked (Instance member (second.Class class)))

-- Every satisfying interpretation puts x into C.
abbrev pub Always : (n : ℕ) → List Statement → ℕ → ℕ → Type 0
Always n ss x C = (I : Interpretation n) → SatisfiesAll I ss → InClass I C (I.individual x)

-- An interpretation that satisfies the statements and has at most n + 2e things.
pub record SmallModel (n : ℕ) (ss : List Statement) : Type 0 where
  pub model : Interpretation n
  pub satisfied : SatisfiesAll model ss
  pub small : AtMost model (n + 2 * count_j ss)

-- One that leaves x out of C.
pub record LeavesOut (n : ℕ) (ss : List Statement) (x C : ℕ) : Type 0 where
  pub in_model : SmallModel n ss
  pub out : ¬ InClass in_model.model C (in_model.model.individual x)

-- One that puts an individual into a class exactly if that fact is marked.
pub record Countermodel (n : ℕ) (ss : List Statement) (marked : Fact → Bool) : Type 0 where
  pub in_model : SmallModel n ss
  pub exact : (x C : ℕ) → x < n → InClass in_model.model C (in_model.model.individual x) ↔ T (marked (is_in x C))

-- A fact with a proof tree holds in every satisfying interpretation.
abbrev pub Soundness : Type 0
Soundness = (n k r : ℕ) (ss : List Statement) → Proper n k r ss → (f : Fact) → HasTree n k ss f → (I : Interpretation n) → SatisfiesAll I ss → Says I ss f

-- Marks that no step leads out of, without a clash, have a small satisfying interpretation that agrees with them.
abbrev pub Countermodels : Type 0
Countermodels = (n k r : ℕ) (ss : List Statement) → Proper n k r ss → (marked : Fact → Bool) → Closed (Follows n k ss) (λ f. T (marked f)) → ¬ Clash ss marked → Countermodel n ss marked

-- Yes: the fact is marked exactly if every satisfying interpretation puts x into C.
abbrev pub YesMeans : Type 0
YesMeans = (n k r : ℕ) (ss : List Statement) (marked : Fact → Bool) → Finished n k r ss marked → (x C : ℕ) → x < n → C < k → T (marked (is_in x C)) ↔ Always n ss x C

-- No: the fact is not marked exactly if a small satisfying interpretation leaves x out of C.
abbrev pub NoMeans : Type 0
NoMeans = (n k r : ℕ) (ss : List Statement) (marked : Fact → Bool) → Finished n k r ss marked → (x C : ℕ) → x < n → C < k → (¬ T (marked (is_in x C))) ↔ LeavesOut n ss x C

-- Clash: there is one exactly if nothing satisfies the statements.
abbrev pub ClashMeans : Type 0
ClashMeans = (n k r : ℕ) (ss : List Statement) (marked : Fact → Bool) → Finished n k r ss marked → Clash ss marked ↔ ((I : Interpretation n) → ¬ SatisfiesAll I ss)
