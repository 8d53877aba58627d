-- What an entry says. Its letter, rule and fields may be any numbers; it tells a fact of the book, with its ground, or none at
-- all. A letter other than I, S and T, a term, class or role that the book does not have, and an unused field that is not 0
-- tell no fact. No entry tells two.
-- Here n, k and r are the counts of individuals, classes and roles.
use Rattle.std.specs.Prelude.{◌≡◌, ℕ, ◌≤◌, List, length}
use Rattle.rules.specs.Limits.{most, most_statements}
use Rattle.rules.specs.Formed.{AllWellFormed}
use Rattle.rules.specs.declared.forms.Kind.TheVariants as kind
use Rattle.rules.specs.declared.statements.Statement.{Statement}
use Rattle.calculus.specs.Terms.{ground_of}
use Rattle.calculus.specs.Steps.{Gives}
use Rattle.calculus.specs.Numbers.{Inside}
use Rattle.calculus.specs.declared.terms.Ground.{Ground}
use Rattle.calculus.specs.declared.terms.Fact.{Fact}
use Rattle.recovery.specs.EntryCuts.{EntryFits}
use Rattle.recovery.specs.declared.entry.Entry.{Entry}
use Rattle.matching.specs.Complete.{entry_of}

-- The entry tells the fact f, which is inside the book, with its ground.
pub record Tells (n k r : ℕ) (e : Entry) (f : Fact) (why : Ground) : Type 0 where
  pub inside : Inside n k r f
  pub is : e ≡ entry_of n f why

abbrev pub TellsNone : (n k r : ℕ) → Entry → Type 0
TellsNone n k r e = (f : Fact) (why : Ground) → ¬ Tells n k r e f why

-- The ground in an entry, whatever its numbers.
abbrev pub ground_in : Entry → Ground
ground_in e = ground_of e.rule e.place e.u e.w

-- The entry with these numbers, and a ground.
abbrev pub made : (letter first role second : ℕ) → Ground → Entry
made letter first role second why = record { letter = letter; rule = why.rule; first = first; role = role; second = second; place = why.place; u = why.u; w = why.w }

-- No entry tells two facts, or two grounds.
abbrev pub ToldOnce : Type 0
ToldOnce = (n k r : ℕ) (e : Entry) (f g : Fact) (why wherefore : Ground) → Tells n k r e f why → Tells n k r e g wherefore → (f ≡ g) × (why ≡ wherefore)

-- Whatever a ground gives from facts of a book within its limits has an entry, whose numbers fit the bytes.
abbrev pub GivenFits : Type 0
GivenFits =
    (n k r : ℕ) (ss : List Statement) → n ≤ most kind.Individual → k ≤ most kind.Class → r ≤ most kind.Role → length ss ≤ most_statements → AllWellFormed n k r ss →
    (f : Fact) (why : Ground) → Gives n k ss (Inside n k r) why f → EntryFits (entry_of n f why)
