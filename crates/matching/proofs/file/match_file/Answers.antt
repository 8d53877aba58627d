use Rattle.std.proofs.Common.{ℕ, ◌-◌, List, take, refl, ap, ◌∙◌}
use Rattle.std.proofs.lemmas.Result.{err_from_is_err_and}
use Rattle.rules.specs.Fits.{pass, if_passed}
use Rattle.rules.specs.declared.statements.Statement.{Statement}
use Rattle.matching.proofs.Kept.{by_refused, by_accepted, promised}
use Rattle.matching.proofs.Only.{one_answer}
use Rattle.matching.proofs.file.match_file.Goals as goal

pub returns-in_err-counts : goal.returns-in_err-counts
returns-in_err-counts g c =
    let p = err_from_is_err_and c.from_residual.result c.from_residual.ensures.1 in
    let m = by_refused c.args.header.now c.args.file.now _ _ _ _ c.from_residual.result _ _ p.1 p.2 c.in_err-counts.ensures.taken.0 refl in
    record { matched = m; promise = promised _ _ _ _ _ _ _ m; one = one_answer _ _ _ _; limit_kept = refl; capacity_kept = refl; lent_kept = refl }

pub returns : goal.returns
returns g c =
    let base = c.new-base.ensures in
    let to = c.compare.ensures in
    let n = c.in_ok-counts.counts in
    let taken : ℕ → List Statement = λ m. take (m - 0) c.take_header.new.memory in
    let statements = base.statements ∙ ap (λ m. if_passed (pass n.individuals n.classes n.roles n.statements (taken m)) (taken m)) c.from.ensures in
    let m = by_accepted c.args.header.now c.args.file.now _ _ _ _ _ _ _ _ _ _ c.in_ok-counts.ensures.taken _ _ _ _ _ base.individuals base.classes base.roles refl statements c.compare.result to.compared in
    record { matched = m; promise = promised _ _ _ _ _ _ _ m; one = one_answer _ _ _ _; limit_kept = to.limit_kept; capacity_kept = to.capacity_kept; lent_kept = to.lent_kept }
