use Rattle.std.proofs.Common.{◌+◌, sym, ap, ◌∙◌}
use Rattle.std.proofs.lemmas.Result.{err_from_is_err_and}
use Rattle.reader.specs.declared.reader.Line.{Line}
use Rattle.reader.specs.Text.{words}
use Rattle.ruletext.specs.Reading.{contents}
use Rattle.ruletext.proofs.Given.{given, missing}
use Rattle.ruletext.proofs.Fields.{field_off, f_short, f_missing, f_found}
use Rattle.ruletext.proofs.text_rules.Rules.field.Goals as goal

pub returns-in_default-clause-cases : goal.returns-in_default-clause-cases
returns-in_default-clause-cases c = λ ks. field_off _ _ (contents c.args.self.now) c.args.kind _ ks c.in_default.is

pub returns-in_err-word-clause-cases : goal.returns-in_err-word-clause-cases
returns-in_err-word-clause-cases c =
    let p = err_from_is_err_and c.from_residual.result c.from_residual.ensures.1 in
    let r = missing c.next_word.result c.at.result c.in_err-word.field-0.0 c.in_err-word.ensures.value in
    let q = rw r.none at c.next_word.ensures in
    rw (p.1, p.2)
    (f_short c.args.line.now.line (c.args.line.now.word + 1) (contents c.args.self.now) c.args.kind (words c.args.line.now.here.now) c.in-Some.kind c.in-Some.is
    q.over _ (ap (λ (l : Line). l.line) q.same) c.in_err-word.field-0.0 (r.is ∙ c.at.ensures))

pub returns-in_err-place-clause-cases : goal.returns-in_err-place-clause-cases
returns-in_err-place-clause-cases c =
    let p = err_from_is_err_and c.from_residual-in_err-place.result c.from_residual-in_err-place.ensures.1 in
    let r = missing c.find.result c.at-2.result c.in_err-place.field-0.0 c.in_err-place.ensures.value in
    let q = rw (given c.next_word.result c.at.result c.in_ok-word.word c.in_ok-word.ensures.value) at c.next_word.ensures in
    rw (p.1, p.2)
    (f_missing c.args.line.now.line (c.args.line.now.word + 1) (contents c.args.self.now) c.args.kind (words c.args.line.now.here.now) c.in-Some.kind c.in-Some.is
    c.in_ok-word.word.bytes.now _ q.taken c.in_ok-word.word.line c.in_ok-word.word.word q.in_line q.in_word
    c.names.result.now c.names.ensures c.find.result c.find.ensures r.none c.in_err-place.field-0.0 (r.is ∙ c.at-2.ensures))

pub returns-clause-cases : goal.returns-clause-cases
returns-clause-cases c =
    let f = given c.find.result c.at-2.result c.in_ok-place.place c.in_ok-place.ensures.value in
    let q = rw (given c.next_word.result c.at.result c.in_ok-word.word c.in_ok-word.ensures.value) at c.next_word.ensures in
    f_found c.args.line.now.line (c.args.line.now.word + 1) (contents c.args.self.now) c.args.kind (words c.args.line.now.here.now) c.in-Some.kind c.in-Some.is
    c.in_ok-word.word.bytes.now _ q.taken c.in_ok-word.word.line c.in_ok-word.word.word q.in_line q.in_word
    c.names.result.now c.names.ensures c.find.result c.find.ensures c.in_ok-place.place f _ (q.word ∙ sym q.in_word)
