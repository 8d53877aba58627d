-- The entries one by one, by what a store holds. An entry is good by the held facts if it tells a fact that is not held, and
-- its ground gives that fact from held ones. A judge who goes by a rule base and a store keeps the facts of the good entries
-- in the store, and nothing else of it changes.
use Rattle.std.specs.Prelude.{◌≡◌, ℕ, ◌<◌, Bool, false, List}
use Rattle.rules.specs.declared.base.RuleBase.{RuleBase}
use Rattle.rules.specs.declared.statements.Statement.{Statement}
use Rattle.marks.specs.Sets.{joined}
use Rattle.marks.specs.Trees.{Missing}
use Rattle.calculus.specs.Numbers.{fact_number}
use Rattle.calculus.specs.declared.terms.Ground.{Ground}
use Rattle.calculus.specs.declared.terms.Fact.{Fact}
use Rattle.grounds.specs.Given.{GivesHeld}
use Rattle.recovery.specs.declared.entry.Entry.{Entry}
use Rattle.matching.specs.Entries.{Tells}

pub record GoodByHeld (n k r : ℕ) (ss : List Statement) (held : ℕ → Bool) (e : Entry) (f : Fact) : Type 0 where
  pub ground : Ground
  pub tells : Tells n k r e f ground
  pub gives : GivesHeld n k r ss held ground f
  pub new : held (fact_number n k r f) ≡ false

-- The entry is good, and its fact has this number.
pub record GoodNumber (n k r : ℕ) (ss : List Statement) (held : ℕ → Bool) (e : Entry) (number : ℕ) : Type 0 where
  pub fact : Fact
  pub good : GoodByHeld n k r ss held e fact
  pub numbered : number ≡ fact_number n k r fact

abbrev pub BadByHeld : (n k r : ℕ) → List Statement → (ℕ → Bool) → Entry → Type 0
BadByHeld n k r ss held e = (f : Fact) → ¬ GoodByHeld n k r ss held e f

-- The entry tells a fact that its ground gives from held ones, held itself or not, and the fact has this number; or it tells
-- none such.
pub record GivenNumber (n k r : ℕ) (ss : List Statement) (held : ℕ → Bool) (e : Entry) (number : ℕ) : Type 0 where
  pub fact : Fact
  pub ground : Ground
  pub tells : Tells n k r e fact ground
  pub gives : GivesHeld n k r ss held ground fact
  pub numbered : number ≡ fact_number n k r fact

abbrev pub NoneGiven : (n k r : ℕ) → List Statement → (ℕ → Bool) → Entry → Type 0
NoneGiven n k r ss held e = (f : Fact) (why : Ground) → Tells n k r e f why → ¬ GivesHeld n k r ss held why f

-- The same by a rule base: the entry is good, and its number is below the store's limit.
pub record GoodHere (b : RuleBase) (held : ℕ → Bool) (limit : ℕ) (e : Entry) : Type 0 where
  pub number : ℕ
  pub good : GoodNumber b.counts.individuals b.counts.classes b.counts.roles b.statements.now held e number
  pub below : number < limit

-- The store holds the fact of the good entry besides.
pub record KeptHere (b : RuleBase) (held : ℕ → Bool) (e : Entry) (after : ℕ → Bool) : Type 0 where
  pub number : ℕ
  pub good : GoodNumber b.counts.individuals b.counts.classes b.counts.roles b.statements.now held e number
  pub added : (x : ℕ) → after x ≡ joined held number x

-- Some number follows from the held ones and is not held.
pub record Lacking (Step : List ℕ → ℕ → Type 0) (held : ℕ → Bool) : Type 0 where
  pub number : ℕ
  pub missing : Missing Step held number

-- The rule base stays, the store's limit, its capacity and the memory it stands on, and which store it is.
pub record Stays (b c : RuleBase) (limit limit' capacity capacity' lent lent' name name' : ℕ) : Type 0 where
  pub base : c ≡ b
  pub limit_kept : limit' ≡ limit
  pub capacity_kept : capacity' ≡ capacity
  pub lent_kept : lent' ≡ lent
  pub name_kept : name' ≡ name
