use Rattle.std.proofs.Common.{replicate, refl, arith}
use Rattle.headers.proofs.Laying.{laid_two}
use Rattle.recovery.proofs.begun.put_zeros_and_header.Goals as goal

pub returns : goal.returns
returns c = laid_two c.args.out.now c.lay.new.out c.lay-2.new.out 0 16 (replicate 16 0) c.args.header.now (c.lay.ensures.written (omega (arith, c.requires))) (c.lay-2.ensures.written (omega (arith, c.requires, c.lay.auto.out))) refl c.requires
