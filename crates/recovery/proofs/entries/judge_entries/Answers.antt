use Rattle.std.proofs.Common.{◌≡◌, sym}
use Rattle.headers.specs.Bytes.{cut}
use Rattle.recovery.specs.Tested.{verdict, kept_of}
use Rattle.recovery.proofs.Tested.{gone_weaker, stays_gone}
use Rattle.recovery.proofs.entries.judge_entries.Given.{Over}
use Rattle.recovery.proofs.entries.judge_entries.Goals as goal
use Rattle.recovery.proofs.entries.judge_entries.Goals.{After-keep_entries}

-- what the judge's tests say of the answer, and of what is kept
told : (g : Over) (c : After-keep_entries g) →
    let k = g.J.Judge in
    let j = c.args.judge.now in
    (c.keep_entries.result ≡ verdict (k.good j) (k.full j) (k.whole j) (k.seen j) 1 (cut 14 c.args.part.now)) × (k.seen c.keep_entries.new.keeper.judge.now ≡ kept_of (k.good j) (k.full j) (k.seen j) (cut 14 c.args.part.now))
told g c =
    let k = g.J.Judge in
    c.keep_entries.ensures.tested (λ t. k.seen t.judge.now) (λ t. k.good t.judge.now) (λ t. k.full t.judge.now) (λ t. k.whole t.judge.now) _ 1 _ _ _
    (gone_weaker (λ j e i h. (h.0, h.1)) (λ j i h. (h.0, h.1)) _ 1 _ _ _ c.keep_entries.ensures.gone)

pub returns-clause-answer : goal.returns-clause-answer
returns-clause-answer g c = (told g (goal.at.returns-clause-answer g c).After-keep_entries).0

pub returns-clause-kept : goal.returns-clause-kept
returns-clause-kept g c = rw (c.judge-1.given.1 (sym (stays_gone (λ t. t.judge.ghost_name) (λ j e i h. h.2) (λ j i h. h.2) _ 1 _ _ _ c.keep_entries.ensures.gone))) (told g (goal.at.returns-clause-kept g c).After-keep_entries).1
