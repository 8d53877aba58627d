use Rattle.recovery.proofs.Tested.{tests_tell}
use Rattle.recovery.proofs.entries.keep_entries.Goals as goal

pub returns-clause-tested : goal.returns-clause-tested
returns-clause-tested g c = tests_tell
