-- What is told of a file: of a header its counts, and whether writing it again gives the same bytes; of a recovery file the
-- lengths of its two parts; or the refusal. And the words that tell it.
use Rattle.std.specs.Prelude.{◌≡◌, ℕ, cond, List, ◌++◌, length, Some, None, codes, decimal}
use Rattle.rules.specs.Refusals.{number_of}
use Rattle.headers.specs.Header.{part}
use Rattle.recovery.specs.Recovery.{recovery_refusal}
use Rattle.caselines.specs.declared.answer.Answer.{Answer}
use Rattle.caselines.specs.declared.answer.Answer.TheVariants as told

-- What is told of the bytes of a recovery file: the lengths of its parts, or why it is refused.
abbrev pub RecoveryTold : List ℕ → Answer → Type 0
RecoveryTold b (told.Header tally same) = ⊥
RecoveryTold b (told.Recovery header entries) = (recovery_refusal b ≡ None) × (header ≡ length (part b 0)) × (entries ≡ length (part b 1))
RecoveryTold b (told.Refused e) = recovery_refusal b ≡ Some e

abbrev pub answer_text : Answer → List ℕ
answer_text (told.Header tally same) =
    codes "header " ++ (decimal tally.individuals ++ (codes " " ++ (decimal tally.classes ++ (codes " " ++ (decimal tally.roles ++ (codes " " ++ (decimal tally.statements ++ (codes " same " ++ cond same (codes "true") (codes "false")))))))))
answer_text (told.Recovery header entries) = codes "recovery " ++ (decimal header ++ (codes " " ++ decimal entries))
answer_text (told.Refused e) = codes "refused " ++ (decimal (number_of e.reason) ++ (codes " place " ++ (decimal e.place ++ (codes " field " ++ decimal e.item))))
