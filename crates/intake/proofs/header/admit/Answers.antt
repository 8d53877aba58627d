use Rattle.std.proofs.Common.{refl, inl}
use Rattle.std.proofs.lemmas.Result.{err_from_is_err_and}
use Rattle.intake.proofs.Judged.{admits, breaks}
use Rattle.intake.proofs.header.admit.Goals as goal

pub returns-in_err-formed : goal.returns-in_err-formed
returns-in_err-formed c =
    let p = err_from_is_err_and c.from_residual.result c.from_residual.ensures.1 in
    rw (p.1, p.2) (inl c.in_err-formed.ensures)

pub returns-in_err-check_admissible : goal.returns-in_err-check_admissible
returns-in_err-check_admissible c =
    let copied = c.copy_statements-count in let f = c.in_ok-formed in
    let p = err_from_is_err_and c.from_residual-in_err-check_admissible.result c.from_residual-in_err-check_admissible.ensures.1 in
    rw (p.1, p.2) (breaks _ f.formed.header f.formed.counts f.ensures _ copied.new.memory refl copied.result copied.ensures _ _ refl c.new-base.ensures.statements _ c.in_err-check_admissible.ensures)

pub returns : goal.returns
returns c =
    let copied = c.copy_statements-count in let f = c.in_ok-formed in
    admits _ f.formed.header f.formed.counts f.ensures _ copied.new.memory refl copied.result copied.ensures _ _ refl c.new-base.ensures.statements c.in_ok-check_admissible.ensures
