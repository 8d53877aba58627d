use Rattle.std.proofs.lemmas.Result.{err_from_is_err_and, MatchResult-weaker}
use Rattle.reader.specs.Text.{lines}
use Rattle.reader.specs.Reading.{lines_left}
use Rattle.ruletext.specs.Outcome.{by_lines, nothing}
use Rattle.ruletext.specs.Reading.{contents}
use Rattle.ruletext.proofs.Lined.{r_end, r_more, r_refused, r_last}
use Rattle.ruletext.proofs.text_rules.Rules.read_lines.Goals as goal

pub loop-line-preserved : goal.loop-line-preserved
loop-line-preserved c =
    let q = c.in-Some.ensures.steps in
    (tt, tt, r_more (by_lines 1 nothing (lines c.args.text.now)) c.loop-line.line-iterator.line (contents c.loop-line.self) (lines_left c.loop-line.line-iterator) c.loop-line.invariant.2 _ q.in_line _ _ q.taken _ c.in_ok-read_line.ensures _ q.line)

pub returns-in_err-read_line : goal.returns-in_err-read_line
returns-in_err-read_line c =
    let q = c.in-Some.ensures.steps in
    let p = err_from_is_err_and c.from_residual.result c.from_residual.ensures.1 in
    rw (p.1, p.2) (r_refused (by_lines 1 nothing (lines c.args.text.now)) c.loop-line.line-iterator.line (contents c.loop-line.self) (lines_left c.loop-line.line-iterator) c.loop-line.invariant.2 _ q.in_line _ _ q.taken c.in_err-read_line.field-0.0 c.in_err-read_line.ensures)

pub returns : goal.returns
returns c =
    let all = r_end (by_lines 1 nothing (lines c.args.text.now)) c.loop-line.line-iterator.line (contents c.loop-line.self) (lines_left c.loop-line.line-iterator) c.loop-line.invariant.2 c.in-None.ensures.steps.over in
    MatchResult-weaker c.counts.result c.counts.ensures
    (λ x p. (r_last (by_lines 1 nothing (lines c.args.text.now)) (contents c.loop-line.self) all _ p.0, p.1))
    (λ e p. r_last (by_lines 1 nothing (lines c.args.text.now)) (contents c.loop-line.self) all _ p)
