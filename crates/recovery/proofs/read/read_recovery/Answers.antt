use Rattle.headers.proofs.Tests.{found}
use Rattle.recovery.proofs.Reading.{uneven, recovery_from}
use Rattle.recovery.proofs.read.read_recovery.Goals as goal

pub returns-then-entries-ne0 : goal.returns-then-entries-ne0
returns-then-entries-ne0 c =
    let a = found _ _ _ _ c.in_ok-one.ensures.ok_part c.part_end.ensures in let b = found _ _ _ _ c.in_ok-two.ensures.ok_part c.part_end-2.ensures in
    uneven c.args.bytes.now c.in_ok-one.one c.in_ok-two.two a.0 a.1 b.0 b.1 c.if-two-bytes.false _ c.at-then-entries-ne0.ensures c.if-entries-ne0.true

pub returns : goal.returns
returns c =
    let a = found _ _ _ _ c.in_ok-one.ensures.ok_part c.part_end.ensures in let b = found _ _ _ _ c.in_ok-two.ensures.ok_part c.part_end-2.ensures in
    recovery_from c.args.bytes.now c.in_ok-one.one c.in_ok-two.two a.0 a.1 b.0 b.1 c.if-two-bytes.false c.if-entries-ne0.false
