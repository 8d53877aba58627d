use Rattle.headers.specs.Header.{encode, renamed}
use Rattle.headers.specs.Views.{rewritten}
use Rattle.headers.proofs.Backward.{renamed_is}
use Rattle.headers.proofs.Forward.{read_back}
use Rattle.headers.proofs.Laying.{written_as}
use Rattle.headers.proofs.header.Header.rewrite.Goals as goal

pub returns : goal.returns
returns c =
    let p = c.args.self.now.parts in
    let ss = c.args.statements.now in
    record {
      bytes = c.write_parts.ensures;
      encoding = λ named. written_as c.write_parts.result c.args.out.now c.write_parts.new.out (rewritten p ss) (encode (renamed p.individuals.now p.classes.now p.roles.now ss))
          (renamed_is p.individuals.now p.classes.now p.roles.now ss named) c.write_parts.ensures;
      back = read_back;
    }
