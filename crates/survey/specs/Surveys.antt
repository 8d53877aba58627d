-- What the program tells of an input, and the line that it prints. An input is judged as a rule text. Of a text that is
-- accepted it tells the counts and how many facts follow from the statements, or only `full` if the slots are too few;
-- of any other the fault.
use Rattle.std.specs.Prelude.{◌≡◌, ℕ, List, ◌++◌, Some, None, Ok, Err, codes, decimal, Option, Result}
use Rattle.rules.specs.Refusals.{number_of}
use Rattle.ruletext.specs.Outcome.{Contents, nothing}
use Rattle.ruletext.specs.Reading.{Counted}
use Rattle.ruletext.specs.Verdicts.{Judged}
use Rattle.survey.specs.declared.report.Survey.{Survey}
use Rattle.survey.specs.declared.report.NoSurvey.{NoSurvey}
use Rattle.survey.specs.declared.report.NoSurvey.TheVariants as no
use Rattle.survey.specs.Facts.{FactsOf}

-- What is told, by what was read (after) and by the slots before and afterwards.
abbrev pub Surveyed : List ℕ → (before slots : List (Option ℕ)) → Contents → Result Survey NoSurvey → Type 0
-- the counts, and so many facts
Surveyed input before slots after (Ok s) = Judged input (Ok after) × Counted s.counts after × FactsOf after before slots (Some s.facts)
-- more facts than slots
Surveyed input before slots after (Err no.Full) = Judged input (Ok after) × FactsOf after before slots None
-- the fault; nothing is read, and the slots are as they were
Surveyed input before slots after (Err (no.Refused e)) = Judged input (Err e) × (after ≡ nothing) × (slots ≡ before)

-- The line that is printed of a survey, and where there is none.
abbrev pub survey_text : Survey → List ℕ
survey_text s =
    decimal s.counts.individuals ++ (codes " individuals " ++ (decimal s.counts.classes ++ (codes " classes " ++ (decimal s.counts.roles ++ (codes " roles " ++ (decimal s.counts.statements ++ (codes " statements " ++ (decimal s.facts ++ codes " facts"))))))))

abbrev pub no_survey_text : NoSurvey → List ℕ
no_survey_text no.Full = codes "full"
no_survey_text (no.Refused e) = codes "fault " ++ (decimal (number_of e.reason) ++ (codes " line " ++ (decimal e.place ++ (codes " word " ++ decimal e.item))))
