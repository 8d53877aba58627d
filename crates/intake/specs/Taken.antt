-- What the calls that take a header in tell of it.
use Rattle.std.specs.Prelude.{◌≡◌, ℕ, List, ◌++◌, length, drop, None, Ok}
use Rattle.rules.specs.declared.counts.Counts.{Counts}
use Rattle.rules.specs.declared.statements.Statement.{Statement}
use Rattle.roles.specs.Roles.{Admissible}
use Rattle.headers.specs.declared.header.Header.{Header as View}
use Rattle.headers.specs.Header.{Header, statements_in}
use Rattle.headers.specs.Theorems.{Proper}
use Rattle.headers.specs.Views.{Opened, Reads, Tallied, holding_of, judgement_of}
use Rattle.intake.specs.Outcomes.{HeaderMeans}

-- A header was accepted: its counts, and its statements at the front of a memory whose rest is as it was.
pub record Taken (b : List ℕ) (n k r m : ℕ) (before after : List Statement) : Type 0 where
  pub header : Header
  pub means : HeaderMeans b (Ok header)
  pub proper : Proper header
  pub individuals : n ≡ length header.individuals
  pub classes : k ≡ length header.classes
  pub roles : r ≡ length header.roles
  pub statements : m ≡ length header.statements
  pub copied : after ≡ header.statements ++ drop m before

-- A header was accepted, and this is a view of it: its four parts, and how many names and statements they hold.
pub record Viewed (b : List ℕ) (h : View) : Type 0 where
  pub means : HeaderMeans b (Ok (holding_of h.parts))
  pub reads : Reads b h

-- A view of a header in order by its format, and its counts.
pub record FormedFrom (b : List ℕ) (h : View) (counts : Counts) : Type 0 where
  pub opened : Opened b h
  pub judged : judgement_of h ≡ None
  pub tallied : Tallied h.tally counts

-- Its statements are admissible too.
pub record Admitted (b : List ℕ) (h : View) (counts : Counts) : Type 0 where
  pub formed : FormedFrom b h counts
  pub admissible : Admissible (statements_in h.parts.statements.now)
