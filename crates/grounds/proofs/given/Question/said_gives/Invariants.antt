use Rattle.std.proofs.Common.{drop}
use Rattle.grounds.proofs.Said.{Left}
use Rattle.grounds.proofs.given.Question.said_gives.Given as goal

abbrev pub invariant-loop-line : goal.invariant-loop-line
invariant-loop-line g l = Left l.self.counts.individuals l.self.counts.classes l.self.counts.roles (g.S.MarkStore.held l.self.store.now) l.self.fact l.self.ground l.p l.on l.fn.said (drop l.line-index l.line-items)
