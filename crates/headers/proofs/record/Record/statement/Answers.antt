use Rattle.std.proofs.Common.{ap, ◌∙◌}
use Rattle.rules.specs.Statements.{statement_of}
use Rattle.headers.specs.Records.{stated}
use Rattle.headers.proofs.record.Record.statement.Goals as goal

pub returns : goal.returns
unfolding stated
returns c =
    let f = c.args.self.fields in
    c.new.ensures ∙ ap (λ l. statement_of l f.first f.second f.third) c.from.ensures
