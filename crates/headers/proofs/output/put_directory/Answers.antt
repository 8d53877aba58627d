use Rattle.std.proofs.Common.{◌+◌, refl, ap, ◌∙◌, arith}
use Rattle.headers.specs.Header.{pair}
use Rattle.headers.specs.Output.{laid}
use Rattle.headers.proofs.Laying.{laid_four}
use Rattle.headers.proofs.output.put_directory.Goals as goal

pub returns : goal.returns
returns c =
    let x = c.args.x in let k = c.args.c in let v = c.args.v in
    laid_four c.args.out.now c.lay.new.out c.lay-2.new.out c.lay-3.new.out c.lay-4.new.out 0 8 16 24
    (pair 32 x) (pair (32 + x) k) (pair (32 + x + k) v) (pair (32 + x + k + v) c.args.s)
    (c.lay.ensures.written (omega arith) ∙ ap (laid c.args.out.now 0) c.pair_bytes.ensures) (c.lay-2.ensures.written (omega arith) ∙ ap (laid c.lay.new.out 8) c.pair_bytes-2.ensures)
    (c.lay-3.ensures.written (omega arith) ∙ ap (laid c.lay-2.new.out 16) c.pair_bytes-3.ensures) (c.lay-4.ensures.written (omega arith) ∙ ap (laid c.lay-3.new.out 24) c.pair_bytes-4.ensures)
    refl refl refl c.requires.0
