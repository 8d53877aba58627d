-- What the program's own values say: what has been read into names and statements.
use Rattle.std.specs.Prelude.{◌≡◌, map, length, vec_items}
use Rattle.rules.specs.declared.counts.Counts.{Counts}
use Rattle.reader.specs.declared.reader.Word.{Word}
use Rattle.ruletext.specs.declared.text_rules.Rules.{Rules}
use Rattle.ruletext.specs.Outcome.{Name, Contents}

-- A word as a name with its place.
abbrev pub spelt : Word → Name
spelt w = record { spelt = w.bytes.now; line = w.line; word = w.word }

-- The names and statements that have been read.
abbrev pub contents : Rules → Contents
contents r = record { individuals = map spelt (vec_items r.individuals); classes = map spelt (vec_items r.classes); roles = map spelt (vec_items r.roles); statements = vec_items r.statements; lines = vec_items r.lines }

-- Counts are those of what has been read.
pub record Counted (c : Counts) (s : Contents) : Type 0 where
  pub individuals : c.individuals ≡ length s.individuals
  pub classes : c.classes ≡ length s.classes
  pub roles : c.roles ≡ length s.roles
  pub statements : c.statements ≡ length s.statements
