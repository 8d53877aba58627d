use Rattle.std.proofs.Common.{◌≡◌, ◌+◌}
use Rattle.reader.specs.Text.{words}
use Rattle.ruletext.specs.Outcome.{all_names}
use Rattle.ruletext.proofs.words.check_names.Given as goal

abbrev pub invariant-loop-word : goal.invariant-loop-word
invariant-loop-word l =
    (goal.iterator-loop-word).can_next l.word-iterator ×
    (goal.iterator-loop-word).is_finite l.word-iterator ×
    (l.word-iterator.line ≡ l.line.line) ×
    (all_names l.line.line (l.line.word + 1) (words l.line.here.now) ≡ all_names l.line.line (l.word-iterator.word + 1) (words l.word-iterator.here.now))
