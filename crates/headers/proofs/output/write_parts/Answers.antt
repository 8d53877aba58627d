use Rattle.std.proofs.Common.{refl}
use Rattle.std.proofs.lemmas.Result.{err_from_is_err_and}
use Rattle.headers.proofs.Laying.{wrote, kept}
use Rattle.headers.proofs.output.write_parts.Goals as goal

pub returns-in_err-n : goal.returns-in_err-n
returns-in_err-n c =
    let a = c.args.parts.now in let e = c.in_err-n.ensures in
    let p = err_from_is_err_and c.from_residual.result c.from_residual.ensures.1 in
    rw (p.1, p.2) (kept a.individuals.now a.classes.now a.roles.now c.args.statements.now _ _ _ refl refl refl c.args.out.now _ _ e.0 e.1 e.2)

pub returns : goal.returns
returns c =
    let a = c.args.parts.now in let e = c.in_ok-n.ensures in
    wrote a.individuals.now a.classes.now a.roles.now c.args.statements.now _ _ _ refl refl refl c.args.out.now c.put_front.new.out c.put_parts.new.out c.in_ok-n.n e.0 e.1 e.2 c.put_parts.ensures
