use Rattle.headers.proofs.Pieces.{by_form, no_form}
use Rattle.headers.proofs.record.Record.wrong.Goals as goal

pub returns-in-Some : goal.returns-in-Some
returns-in-Some c = by_form _ _ _ c.from.result c.args.self c.from.ensures _ _ c.in-Some.ensures c.wrong_field.ensures

pub returns-in-None : goal.returns-in-None
returns-in-None c = no_form _ _ _ c.from.result c.args.self c.from.ensures c.in-None.ensures
