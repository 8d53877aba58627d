use Rattle.std.proofs.Common.{◌≡◌, ◌+◌, Ok, length, sym, subst, rules}
use Rattle.std.proofs.lemmas.List.{drop_all}
use Rattle.headers.specs.Bytes.{cut}
use Rattle.recovery.specs.Entries.{Gone, at_bad, at_full, past_good, at_lack, at_end}
use Rattle.recovery.specs.declared.entries.Verdict.TheVariants.{No}
use Rattle.recovery.proofs.Verdicts.{comes}
use Rattle.recovery.proofs.entries.go_over.Goals as goal

pub returns-in-Bad : goal.returns-in-Bad
returns-in-Bad g c =
    let front : c.as_chunks.result.0.now ≡ cut 14 c.args.part.now = c.as_chunks.ensures.front in
    let said = c.in-Bad.ensures in
    rw (sym {b = cut 14 c.args.part.now} front) (c.loop-i.invariant _ _ (at_bad (comes c.as_chunks.result.0.now c.loop-i.i _ _ c.loop-i-test.true c.entry_in.ensures.is c.entry_in.ensures.fits) said.0 said.1))

pub returns-in-Full : goal.returns-in-Full
returns-in-Full g c =
    let front : c.as_chunks.result.0.now ≡ cut 14 c.args.part.now = c.as_chunks.ensures.front in
    let said = c.in-Full.ensures in
    rw (sym {b = cut 14 c.args.part.now} front, c.into.ensures) (c.loop-i.invariant _ _ (at_full (comes c.as_chunks.result.0.now c.loop-i.i _ _ c.loop-i-test.true c.entry_in.ensures.is c.entry_in.ensures.fits) said.0 said.1 said.2))

pub loop-i-preserved : goal.loop-i-preserved
loop-i-preserved g c =
    let said = c.in-Good.ensures in
    λ j o others. c.loop-i.invariant j o (past_good (comes c.as_chunks.result.0.now c.loop-i.i _ _ c.loop-i-test.true c.entry_in.ensures.is c.entry_in.ensures.fits) said.0 said.1 said.2 others)

pub returns-then-is_whole : goal.returns-then-is_whole
returns-then-is_whole g c =
    let front : c.as_chunks.result.0.now ≡ cut 14 c.args.part.now = c.as_chunks.ensures.front in
    rw (sym {b = cut 14 c.args.part.now} front) (c.loop-i.invariant _ _ (rw (drop_all c.loop-i.i c.as_chunks.result.0.now c.loop-i-test.false) (at_end (c.is_whole.ensures.whole c.if-is_whole.true))))

pub returns-else-is_whole : goal.returns-else-is_whole
returns-else-is_whole g c =
    let front : c.as_chunks.result.0.now ≡ cut 14 c.args.part.now = c.as_chunks.ensures.front in
    let e : length c.as_chunks.result.0.now ≡ c.loop-i.i = search rules in
    let k = g.K.Keeper in
    rw (sym {b = cut 14 c.args.part.now} front) (subst (λ n. Gone k.good k.full k.whole k.lacks k.keeps k.alike c.as_chunks.result.0.now 1 c.args.keeper.now c.loop-i.keeper (Ok (No (n + 1)))) (sym e) (c.loop-i.invariant c.loop-i.keeper (Ok (No (c.loop-i.i + 1))) (rw (drop_all c.loop-i.i c.as_chunks.result.0.now c.loop-i-test.false) (at_lack (c.is_whole.ensures.lacks c.if-is_whole.false)))))
