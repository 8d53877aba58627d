use Rattle.std.proofs.Common.{Err, ap, ◌∙◌}
use Rattle.std.proofs.lemmas.Result.{err_from_is_err_and}
use Rattle.reader.specs.Text.{words}
use Rattle.ruletext.specs.Reading.{contents}
use Rattle.ruletext.proofs.States.{s_count, s_name, s_field, s_new}
use Rattle.ruletext.proofs.text_rules.Rules.stated.Goals as goal

pub returns-then-last_word-used : goal.returns-then-last_word-used
returns-then-last_word-used c = s_count c.args.said.rest.line c.args.said.rest.word c.last_word.result (contents c.args.self.now) c.args.said.letter c.args.kinds.first c.args.kinds.second c.args.kinds.third (words c.args.said.rest.here.now) c.args.said.second c.last_word.ensures c.used.result c.used.ensures c.if-last_word-used.true c.at.result c.at.ensures

pub returns-in_err-check_names : goal.returns-in_err-check_names
returns-in_err-check_names c =
    let p = err_from_is_err_and c.from_residual.result c.from_residual.ensures.1 in
    s_name c.args.said.rest.line c.args.said.rest.word c.last_word.result (contents c.args.self.now) c.args.said.letter c.args.kinds.first c.args.kinds.second c.args.kinds.third (words c.args.said.rest.here.now) c.args.said.second c.last_word.ensures c.used.result c.used.ensures c.if-last_word-used.false c.check_names.result c.check_names.ensures c.in_err-check_names.field-0.0 c.in_err-check_names.was c.from_residual.result (p.1 ∙ ap Err p.2)

pub returns-in_err-fields : goal.returns-in_err-fields
returns-in_err-fields c =
    let p = err_from_is_err_and c.from_residual-in_err-fields.result c.from_residual-in_err-fields.ensures.1 in
    s_field c.args.said.rest.line c.args.said.rest.word c.last_word.result (contents c.args.self.now) c.args.said.letter c.args.kinds.first c.args.kinds.second c.args.kinds.third (words c.args.said.rest.here.now) c.args.said.second c.last_word.ensures c.used.result c.used.ensures c.if-last_word-used.false c.check_names.result c.check_names.ensures tt c.in_ok-check_names.was c.in_err-fields.field-0.0 c.in_err-fields.ensures c.from_residual-in_err-fields.result (p.1 ∙ ap Err p.2)

pub returns : goal.returns
returns c = s_new c.args.said.rest.line c.args.said.rest.word c.last_word.result (contents c.args.self.now) c.args.said.letter c.args.kinds.first c.args.kinds.second c.args.kinds.third (words c.args.said.rest.here.now) c.args.said.second c.last_word.ensures c.used.result c.used.ensures c.if-last_word-used.false c.check_names.result c.check_names.ensures tt c.in_ok-check_names.was _ _ _ c.in_ok-fields.ensures c.new.result c.new.ensures _ c.at-2.ensures c.ok_or.result c.ok_or.ensures.value
