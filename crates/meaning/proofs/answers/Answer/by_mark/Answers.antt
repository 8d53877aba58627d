use Rattle.std.proofs.Common.{sym, ap, subst}
use Rattle.meaning.specs.Answers.{answer_for, AnswerRight}
use Rattle.meaning.specs.declared.answers.Answer.TheVariants as answer
use Rattle.meaning.proofs.Preserved.{soundness}
use Rattle.meaning.proofs.Answered.{yes_means, no_means, yes_right, no_right}
use Rattle.meaning.proofs.answers.Answer.by_mark.Goals as goal

pub returns-then-marked : goal.returns-then-marked
returns-then-marked c =
    let e = sym c.if-marked.true in
    record { value = ap answer_for e; right = subst (λ b. AnswerRight b answer.Yes) e yes_right; sound = soundness; yes = yes_means; no = no_means }

pub returns-else-marked : goal.returns-else-marked
returns-else-marked c =
    let e = sym c.if-marked.false in
    record { value = ap answer_for e; right = subst (λ b. AnswerRight b answer.No) e no_right; sound = soundness; yes = yes_means; no = no_means }
