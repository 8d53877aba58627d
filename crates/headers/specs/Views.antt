-- What the calls that read a header tell of it.
use Rattle.std.specs.Prelude.{◌≡◌, ℕ, ◌<◌, ◌≤◌, List, ◌++◌, length, take, drop, None, Ok, Option}
use Rattle.std.specs.Borrow.{Bor}
use Rattle.rules.specs.declared.counts.Counts.{Counts}
use Rattle.rules.specs.declared.forms.Kind.{Kind}
use Rattle.rules.specs.declared.forms.Kind.TheVariants as kind
use Rattle.rules.specs.declared.refusals.Refusal.{Refusal}
use Rattle.rules.specs.declared.statements.Statement.{Statement}
use Rattle.headers.specs.declared.header.Header.{Header as View}
use Rattle.headers.specs.declared.header.ByPart.{ByPart}
use Rattle.headers.specs.Bytes.{joined}
use Rattle.headers.specs.Names.{lines}
use Rattle.headers.specs.Records.{record_bytes}
use Rattle.headers.specs.Header.{Header, part, directory_refusal, content_refusal, judgement, records_in, statements_in, decode, contents, holding, encode, file_of, Named}
use Rattle.headers.specs.Theorems.{Proper}

-- The bytes of the four parts, and how many names or statements each holds.
abbrev pub Parts : Type 0
Parts = ByPart (Bor (List ℕ))

abbrev pub Tally : Type 0
Tally = ByPart ℕ

-- The four parts of a file with a right directory.
pub record Cut (b : List ℕ) (p : Parts) : Type 0 where
  pub right : directory_refusal b ≡ None
  pub individuals : p.individuals.now ≡ part b 0
  pub classes : p.classes.now ≡ part b 1
  pub roles : p.roles.now ≡ part b 2
  pub statements : p.statements.now ≡ part b 3

-- What these parts hold, and the refusal of their contents.
abbrev pub holding_of : Parts → Header
holding_of p = holding p.individuals.now p.classes.now p.roles.now p.statements.now

abbrev pub content_refusal_of : Parts → Option Refusal
content_refusal_of p = content_refusal p.individuals.now p.classes.now p.roles.now p.statements.now

-- How many names and statements the parts hold.
pub record Counted (p : Parts) (t : Tally) : Type 0 where
  pub individuals : t.individuals ≡ length (lines p.individuals.now)
  pub classes : t.classes ≡ length (lines p.classes.now)
  pub roles : t.roles ≡ length (lines p.roles.now)
  pub statements : t.statements ≡ length (records_in p.statements.now)

-- The contents of the parts are right, and so many; each record gives a statement.
pub record Held (p : Parts) (t : Tally) : Type 0 where
  pub right : content_refusal_of p ≡ None
  pub counted : Counted p t
  pub each : length (statements_in p.statements.now) ≡ t.statements

-- A file whose directory and contents are right, and its view: the four parts, and how many names and statements they hold.
pub record Opened (b : List ℕ) (h : View) : Type 0 where
  pub is : contents b ≡ Ok (holding_of h.parts)
  pub cut : Cut b h.parts
  pub held : Held h.parts h.tally
  pub named : Named h.parts.individuals.now h.parts.classes.now h.parts.roles.now

-- A file that holds a header: the same, and that the header is in order, and that this is its only file.
pub record Reads (b : List ℕ) (h : View) : Type 0 where
  pub is : decode b ≡ Ok (holding_of h.parts)
  pub opened : Opened b h
  pub proper : Proper (holding_of h.parts)
  pub whole : encode (holding_of h.parts) ≡ b

-- What judging the counts and fields of a view answers.
abbrev pub judgement_of : View → Option Refusal
judgement_of h = judgement h.tally.individuals h.tally.classes h.tally.roles h.tally.statements (records_in h.parts.statements.now)

-- Counts that say what was tallied.
pub record Tallied (t : Tally) (c : Counts) : Type 0 where
  pub individuals : c.individuals ≡ t.individuals
  pub classes : c.classes ≡ t.classes
  pub roles : c.roles ≡ t.roles
  pub statements : c.statements ≡ t.statements

-- The part of the names of a kind.
abbrev pub part_of : Kind → Parts → List ℕ
part_of kind.Individual p = p.individuals.now
part_of kind.Class p = p.classes.now
part_of kind.Role p = p.roles.now

-- The names of these parts with other statements, as a file.
abbrev pub rewritten : Parts → List Statement → List ℕ
rewritten p ss = file_of p.individuals.now p.classes.now p.roles.now (joined record_bytes ss)

-- The first n of some statements were copied to the front of a memory, all that there are or as many as it holds; the rest
-- of it is as it was.
pub record Copied (before after ss : List Statement) (n : ℕ) : Type 0 where
  pub some : n ≤ length ss
  pub room : n ≤ length before
  pub most : (n < length ss → n ≡ length before)
  pub statements : after ≡ take n ss ++ drop n before
