use Rattle.reader.proofs.Rejoined.{lines_whole}
use Rattle.ruletext.specs.Reading.{contents}
use Rattle.ruletext.proofs.Accepted.{orderly_if}
use Rattle.ruletext.proofs.One.{one_outcome}
use Rattle.ruletext.proofs.text_rules.Rules.read.Goals as goal

pub returns-then-is_err-clause-one : goal.returns-then-is_err-clause-one
returns-then-is_err-clause-one c = one_outcome c.args.text.now

pub returns-then-is_err-clause-lines : goal.returns-then-is_err-clause-lines
returns-then-is_err-clause-lines c = lines_whole c.args.text.now

pub returns-else-is_err-clause-lines : goal.returns-else-is_err-clause-lines
returns-else-is_err-clause-lines c = lines_whole c.args.text.now

pub returns-else-is_err-clause-orderly : goal.returns-else-is_err-clause-orderly
returns-else-is_err-clause-orderly c = orderly_if c.args.text.now (contents c.read_text-outcome.new.self) c.read_text-outcome.result c.read_text-outcome.ensures
