use Rattle.std.proofs.Common.{◌≡◌, ◌+◌}
use Rattle.reader.specs.Text.{lines}
use Rattle.ruletext.specs.Outcome.{by_lines, nothing}
use Rattle.ruletext.specs.Reading.{contents}
use Rattle.reader.specs.Reading.{lines_left}
use Rattle.ruletext.proofs.text_rules.Rules.read_lines.Given as goal

abbrev pub invariant-loop-line : goal.invariant-loop-line
invariant-loop-line l =
    (goal.iterator-loop-line).can_next l.line-iterator ×
    (goal.iterator-loop-line).is_finite l.line-iterator ×
    (by_lines 1 nothing (lines l.text) ≡ by_lines (l.line-iterator.line + 1) (contents l.self) (lines_left l.line-iterator))
