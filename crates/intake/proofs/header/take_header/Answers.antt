use Rattle.std.proofs.Common.{refl, arith}
use Rattle.std.proofs.lemmas.Result.{err_from_is_err_and}
use Rattle.intake.proofs.Judged.{taken}
use Rattle.intake.proofs.One.{one_header}
use Rattle.intake.proofs.header.take_header.Goals as goal

pub returns-in_err-taken : goal.returns-in_err-taken
returns-in_err-taken c =
    let p = err_from_is_err_and c.from_residual.result c.from_residual.ensures.1 in
    record { taken = rw (p.1, p.2) (c.in_err-taken.ensures, refl); one = one_header c.args.bytes.now }

pub returns : goal.returns
returns c =
    let t = c.in_ok-taken in
    record { taken = taken _ t.taken.header t.taken.counts t.ensures c.args.memory.now c.copy_statements.new.memory (omega arith) c.copy_statements.result c.copy_statements.ensures; one = one_header c.args.bytes.now }
