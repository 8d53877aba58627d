use Rattle.std.proofs.Common.{◌+◌}
use Rattle.std.proofs.lemmas.Result.{err_from_is_err_and}
use Rattle.reader.specs.Text.{words}
use Rattle.ruletext.specs.Reading.{contents}
use Rattle.ruletext.proofs.States.{first_refused, second_refused, third_refused, all_read}
use Rattle.ruletext.proofs.text_rules.Rules.fields.Goals as goal

pub returns-in_err-a : goal.returns-in_err-a
returns-in_err-a c =
    let p = err_from_is_err_and c.from_residual.result c.from_residual.ensures.1 in
    rw (p.1, p.2) (first_refused c.args.line.line (contents c.args.self.now) c.args.kinds.first c.args.kinds.second c.args.kinds.third (c.args.line.word + 1) (words c.args.line.here.now) c.in_err-a.field-0.0 c.in_err-a.ensures.cases)

pub returns-in_err-b : goal.returns-in_err-b
returns-in_err-b c =
    let p = err_from_is_err_and c.from_residual-in_err-b.result c.from_residual-in_err-b.ensures.1 in
    rw (p.1, p.2) (second_refused c.args.line.line (contents c.args.self.now) c.args.kinds.first c.args.kinds.second c.args.kinds.third (c.args.line.word + 1) (words c.args.line.here.now) _ _ c.in_ok-a.a c.in_ok-a.ensures.cases _ c.in_ok-a.ensures.kept c.in_err-b.field-0.0 c.in_err-b.ensures.cases)

pub returns-in_err-c : goal.returns-in_err-c
returns-in_err-c c =
    let p = err_from_is_err_and c.from_residual-in_err-c.result c.from_residual-in_err-c.ensures.1 in
    rw (p.1, p.2) (third_refused c.args.line.line (contents c.args.self.now) c.args.kinds.first c.args.kinds.second c.args.kinds.third (c.args.line.word + 1) (words c.args.line.here.now) _ _ c.in_ok-a.a c.in_ok-a.ensures.cases _ c.in_ok-a.ensures.kept _ _ c.in_ok-b.b c.in_ok-b.ensures.cases _ c.in_ok-b.ensures.kept c.in_err-c.field-0.0 c.in_err-c.ensures.cases)

pub returns : goal.returns
returns c = rw c.new.ensures (all_read c.args.line.line (contents c.args.self.now) c.args.kinds.first c.args.kinds.second c.args.kinds.third (c.args.line.word + 1) (words c.args.line.here.now) _ _ c.in_ok-a.a c.in_ok-a.ensures.cases _ c.in_ok-a.ensures.kept _ _ c.in_ok-b.b c.in_ok-b.ensures.cases _ c.in_ok-b.ensures.kept _ _ c.in_ok-c.c c.in_ok-c.ensures.cases)
