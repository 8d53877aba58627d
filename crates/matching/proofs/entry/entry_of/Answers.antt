use Rattle.matching.proofs.Shorts.{given_fits}
use Rattle.matching.proofs.entry.entry_of.Goals as goal

pub returns-in-Instance-clause-given : goal.returns-in-Instance-clause-given
returns-in-Instance-clause-given c = given_fits

pub returns-in-SelfPair-clause-given : goal.returns-in-SelfPair-clause-given
returns-in-SelfPair-clause-given c = given_fits

pub returns-in-Pair-clause-given : goal.returns-in-Pair-clause-given
returns-in-Pair-clause-given c = given_fits
