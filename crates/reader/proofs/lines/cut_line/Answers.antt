use Rattle.std.proofs.Common.{sym, ◌∙◌}
use Rattle.reader.proofs.Cuts.{uncut, line_cut}
use Rattle.reader.proofs.lines.cut_line.Goals as goal

pub returns-in-Some-clause-lines : goal.returns-in-Some-clause-lines
returns-in-Some-clause-lines c = line_cut c.args.text.now c.in-Some.end (sym c.first.ensures ∙ c.in-Some.is)

pub returns-in-None-clause-lines : goal.returns-in-None-clause-lines
returns-in-None-clause-lines c = uncut 10 c.args.text.now (sym c.first.ensures ∙ c.in-None.is)
