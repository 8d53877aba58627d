use Rattle.std.proofs.Common.{◌+◌, refl, ap, ◌∙◌, arith}
use Rattle.headers.specs.Header.{pair}
use Rattle.headers.specs.Output.{laid}
use Rattle.headers.proofs.Laying.{laid_two}
use Rattle.recovery.proofs.begun.put_two_pairs.Goals as goal

pub returns : goal.returns
returns c =
    let a = c.args in
    laid_two a.out.now c.lay.new.out c.lay-2.new.out 0 8 (pair 16 a.header) (pair (16 + a.header) a.entries) (c.lay.ensures.written (omega arith) ∙ ap (laid a.out.now 0) c.pair_bytes.ensures) (c.lay-2.ensures.written (omega arith) ∙ ap (laid c.lay.new.out 8) c.pair_bytes-2.ensures) refl c.requires.0
