use Rattle.std.proofs.Common.{arith}
use Rattle.grounds.proofs.Said.{some_gives, passed, left_more}
use Rattle.grounds.proofs.given.Question.said_gives.Goals as goal

pub loop-line-preserved-in_default : goal.loop-line-preserved-in_default
loop-line-preserved-in_default g c =
    left_more c.args.self.now.counts.individuals c.args.self.now.counts.classes c.args.self.now.counts.roles (g.S.MarkStore.held c.args.self.now.store.now) c.args.self.now.fact c.args.self.now.ground c.args.p c.args.on c.args.said
    c.loop-line.line-index _ (omega arith) (λ l e h. c.in_default.not-Some l e) c.loop-line.invariant

pub returns-then-line_gives : goal.returns-then-line_gives
returns-then-line_gives g c =
    some_gives c.args.self.now.counts.individuals c.args.self.now.counts.classes c.args.self.now.counts.roles (g.S.MarkStore.held c.args.self.now.store.now) c.args.self.now.fact c.args.self.now.ground c.args.p c.args.on c.args.said
    c.loop-line.line-index _ c.in-Some.line c.line_gives.result (omega arith) c.in-Some.is c.if-line_gives.true c.line_gives.ensures

pub loop-line-preserved : goal.loop-line-preserved
loop-line-preserved g c =
    left_more c.args.self.now.counts.individuals c.args.self.now.counts.classes c.args.self.now.counts.roles (g.S.MarkStore.held c.args.self.now.store.now) c.args.self.now.fact c.args.self.now.ground c.args.p c.args.on c.args.said
    c.loop-line.line-index _ (omega arith)
    (passed c.args.self.now.counts.individuals c.args.self.now.counts.classes c.args.self.now.counts.roles (g.S.MarkStore.held c.args.self.now.store.now) c.args.self.now.fact c.args.self.now.ground c.args.p c.args.on c.args.said
    c.loop-line.line-index _ c.in-Some.line c.line_gives.result c.in-Some.is c.if-line_gives.false c.line_gives.ensures)
    c.loop-line.invariant
