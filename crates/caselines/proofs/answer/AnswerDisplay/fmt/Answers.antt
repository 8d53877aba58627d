use Rattle.caselines.proofs.answer.AnswerDisplay.fmt.Goals as goal

pub returns-in-Header-clause-writes : goal.returns-in-Header-clause-writes
returns-in-Header-clause-writes g c = λ p o. let h = c.write.ensures.writes p o in rw c.in-Header.is h

pub returns-in-Recovery-clause-writes : goal.returns-in-Recovery-clause-writes
returns-in-Recovery-clause-writes g c = λ p o. let h = c.write-in-Recovery.ensures.writes p o in rw c.in-Recovery.is h

pub returns-in-Refused-clause-writes : goal.returns-in-Refused-clause-writes
returns-in-Refused-clause-writes g c = λ p o. let h = c.write-in-Refused.ensures.writes p o in rw (c.in-Refused.is, ← c.from-reason.ensures) h
