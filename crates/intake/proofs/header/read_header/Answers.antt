use Rattle.std.proofs.Common.{arith}
use Rattle.std.proofs.lemmas.Result.{err_from_is_err_and}
use Rattle.intake.proofs.Judged.{viewed}
use Rattle.intake.proofs.One.{one_header, accepted_back, only_accepted}
use Rattle.intake.proofs.header.read_header.Goals as goal

pub returns-in_err-read : goal.returns-in_err-read
returns-in_err-read c =
    let p = err_from_is_err_and c.from_residual.result c.from_residual.ensures.1 in
    record { exact = rw (p.1, p.2) c.in_err-read.ensures; one = one_header c.args.bytes.now; back = accepted_back; only = only_accepted }

pub returns : goal.returns
returns c =
    let r = c.in_ok-read in
    record { exact = viewed _ r.read.header r.read.counts r.ensures (λ k. omega (arith, c.type_inv.bytes k)); one = one_header c.args.bytes.now; back = accepted_back; only = only_accepted }
