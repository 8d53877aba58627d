use Rattle.std.proofs.Common.{ℕ, ◌+◌, ◌*◌, ap, ◌∙◌, arith}
use Rattle.headers.specs.Output.{laid}
use Rattle.headers.proofs.Laying.{records_more}
use Rattle.headers.proofs.output.put_records.Goals as goal

pub loop-i-preserved : goal.loop-i-preserved
loop-i-preserved c =
    let i : ℕ = c.loop-i.i in
    c.lay.ensures.written (omega (arith, c.requires, c.loop-i-test.true, c.loop-i.auto.out))
    ∙ (ap (laid c.loop-i.out (c.args.at + 8 * i)) c.record_bytes.ensures ∙ records_more c.args.out.now c.loop-i.out c.args.at i c.args.statements.now _ c.loop-i-test.true c.requires c.loop-i.invariant)
