use Rattle.std.proofs.lemmas.Result.{err_from_is_err_and}
use Rattle.headers.proofs.Judging.{contents_refused, refused_from}
use Rattle.intake.proofs.header.form.Goals as goal

pub returns-in_err-header : goal.returns-in_err-header
returns-in_err-header c =
    let p = err_from_is_err_and c.from_residual.result c.from_residual.ensures.1 in
    rw (p.1, p.2) (contents_refused c.args.bytes.now _ c.in_err-header.ensures)

pub returns-in_err-counts : goal.returns-in_err-counts
returns-in_err-counts c =
    let p = err_from_is_err_and c.from_residual-in_err-counts.result c.from_residual-in_err-counts.ensures.1 in
    rw (p.1, p.2) (refused_from _ c.in_ok-header.header c.in_ok-header.ensures _ c.in_err-counts.ensures)

pub returns : goal.returns
returns c =
    let j = c.in_ok-counts.ensures in
    record { opened = c.in_ok-header.ensures; judged = j.0; tallied = j.1 }
