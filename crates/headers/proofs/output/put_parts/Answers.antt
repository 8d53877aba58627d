use Rattle.std.proofs.Common.{◌+◌, length, refl, arith}
use Rattle.headers.specs.Bytes.{joined}
use Rattle.headers.specs.Records.{record_bytes}
use Rattle.headers.proofs.Laying.{laid_four, joined_length}
use Rattle.headers.proofs.output.put_parts.Goals as goal

pub returns : goal.returns
returns c =
    let p = c.args.parts.now in
    let x = p.individuals.now in let k = p.classes.now in let v = p.roles.now in let ss = c.args.statements.now in
    laid_four c.args.out.now c.lay.new.out c.lay-2.new.out c.lay-3.new.out c.put_records.new.out 32 (32 + length x) (32 + length x + length k) (32 + length x + length k + length v)
    x k v (joined record_bytes ss) (c.lay.ensures.written (omega (arith, c.requires))) (c.lay-2.ensures.written (omega (arith, c.requires, c.lay.auto.out))) (c.lay-3.ensures.written (omega (arith, c.requires, c.lay.auto.out, c.lay-2.auto.out)))
    c.put_records.ensures refl refl refl (omega (arith, joined_length ss, c.requires))
