use Rattle.meaning.proofs.Counter.{countermodels}
use Rattle.meaning.proofs.answers.most_things.Goals as goal

pub returns-clause-small : goal.returns-clause-small
returns-clause-small c = countermodels
