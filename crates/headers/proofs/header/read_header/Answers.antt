use Rattle.std.proofs.Common.{arith}
use Rattle.std.proofs.lemmas.Result.{err_from_is_err_and}
use Rattle.headers.proofs.Judging.{contents_refused, refused_from, reads_from}
use Rattle.headers.proofs.Backward.{only_one}
use Rattle.headers.proofs.header.read_header.Goals as goal

pub returns-in_err-header : goal.returns-in_err-header
returns-in_err-header c =
    let p = err_from_is_err_and c.from_residual.result c.from_residual.ensures.1 in
    record { exact = rw (p.1, p.2) (contents_refused c.args.bytes.now _ c.in_err-header.ensures); only = only_one }

pub returns-in_err-_counts : goal.returns-in_err-_counts
returns-in_err-_counts c =
    let p = err_from_is_err_and c.from_residual-in_err-_counts.result c.from_residual-in_err-_counts.ensures.1 in
    record { exact = rw (p.1, p.2) (refused_from c.args.bytes.now c.in_ok-header.header c.in_ok-header.ensures _ c.in_err-_counts.ensures); only = only_one }

pub returns : goal.returns
returns c = record {
  exact = reads_from c.args.bytes.now c.in_ok-header.header c.in_ok-header.ensures (λ k. omega (arith, c.type_inv.bytes k)) c.in_ok-_counts.ensures.0;
  only = only_one;
}
