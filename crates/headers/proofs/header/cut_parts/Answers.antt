use Rattle.std.proofs.Common.{refl}
use Rattle.headers.proofs.Rights.{cut_from}
use Rattle.headers.proofs.Tests.{found}
use Rattle.headers.proofs.header.cut_parts.Goals as goal

pub returns : goal.returns
returns c =
    let one = found _ _ _ _ c.in_ok-one.ensures.ok_part c.part_end.ensures in
    let two = found _ _ _ _ c.in_ok-two.ensures.ok_part c.part_end-2.ensures in
    let three = found _ _ _ _ c.in_ok-three.ensures.ok_part c.part_end-3.ensures in
    let four = found _ _ _ _ c.in_ok-four.ensures.ok_part c.part_end-4.ensures in
    cut_from c.args.bytes.now c.in_ok-one.one c.in_ok-two.two c.in_ok-three.three c.in_ok-four.four
    one.0 one.1 two.0 two.1 three.0 three.1 four.0 four.1 c.if-four-bytes.false _ refl refl refl refl
