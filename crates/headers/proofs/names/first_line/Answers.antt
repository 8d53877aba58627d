use Rattle.std.proofs.Common.{ℕ, ◌+◌, List, length, sym, arith}
use Rattle.std.proofs.lemmas.Slice.{between_to_end}
use Rattle.headers.proofs.Lines.{no_line, first_line}
use Rattle.headers.proofs.names.first_line.Goals as goal

pub returns-in_err-end : goal.returns-in_err-end
returns-in_err-end c = rw c.from_residual.ensures (no_line c.args.part.now (sym c.in_err-end.ensures))

pub returns : goal.returns
returns c =
    let part : List ℕ = c.args.part.now in
    let f = first_line part c.in_ok-end.end (sym c.in_ok-end.ensures) in
    let e = between_to_end part (c.in_ok-end.end + 1) (length part) (omega arith) in
    rw e f
