use Rattle.std.proofs.Common.{sym, ◌∙◌}
use Rattle.std.proofs.lemmas.Result.{err_from_is_err_and, MatchResult-weaker}
use Rattle.ruletext.specs.Reading.{contents}
use Rattle.ruletext.proofs.Given.{given, missing}
use Rattle.ruletext.proofs.Lined.{l_bytes, l_blank, l_long, l_letter}
use Rattle.ruletext.proofs.text_rules.Rules.read_line.Goals as goal

pub returns-then-not-is_proper : goal.returns-then-not-is_proper
returns-then-not-is_proper c = l_bytes c.args.line.line (contents c.args.self.now) c.args.line.here.now (sym c.if-not-is_proper.ensures) c.at.result c.at.ensures

pub returns-in_default : goal.returns-in_default
returns-in_default c = l_blank c.args.line.line (contents c.args.self.now) c.args.line.here.now (sym c.if-not-is_proper.ensures) c.in_default.ensures.over

pub returns-in_err-letter : goal.returns-in_err-letter
returns-in_err-letter c =
    let p = err_from_is_err_and c.from_residual.result c.from_residual.ensures.1 in
    let r = missing c.letter_of.result c.at-2.result c.in_err-letter.field-0.0 c.in_err-letter.ensures.value in
    rw (p.1, p.2) (l_long c.args.line.line (contents c.args.self.now) c.args.line.here.now (sym c.if-not-is_proper.ensures) c.in-Some.word.bytes.now _ c.in-Some.ensures.taken c.letter_of.result c.letter_of.ensures _ c.in-Some.ensures.line r.none c.in_err-letter.field-0.0 (r.is ∙ c.at-2.ensures))

pub returns : goal.returns
returns c =
    let letter = given c.letter_of.result c.at-2.result c.in_ok-letter.letter c.in_ok-letter.ensures.value in
    let same = l_letter c.args.line.line (contents c.args.self.now) c.args.line.here.now (sym c.if-not-is_proper.ensures) c.in-Some.word.bytes.now _ c.in-Some.ensures.taken c.letter_of.result c.letter_of.ensures _ c.in-Some.ensures.line c.in_ok-letter.letter letter in
    MatchResult-weaker c.read_letter.result c.read_letter.ensures (λ x p. same ∙ p) (λ e p. same ∙ p)
