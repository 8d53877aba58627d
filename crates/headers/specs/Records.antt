-- The record of a statement. It has eight bytes: the letter, a zero byte, and three fields of 16 bits each, high byte
-- first. Eight bytes are a record if a form has their letter and their second byte is zero.
use Rattle.std.specs.Prelude.{ℕ, ◌+◌, Bool, ◌&&◌, List, [], ◌∷◌, ◌++◌, is_some, Some, None, Option, ◌==◌}
use Rattle.rules.specs.Forms.{fields_of_form}
use Rattle.rules.specs.Statements.{letter_of, fields_of, statement_of, three}
use Rattle.rules.specs.Fits.{wrong_by_form, refuse_field}
use Rattle.rules.specs.declared.refusals.Refusal.{Refusal}
use Rattle.rules.specs.declared.statements.Statement.{Statement}
use Rattle.headers.specs.declared.record.Record.{Record}
use Rattle.headers.specs.Bytes.{at, wide, two}

-- Whether a form has the letter.
unfoldable pub known_letter : ℕ → Bool
known_letter letter = is_some (fields_of_form letter)

-- What eight bytes say: a letter and three fields.
abbrev pub record_in : List ℕ → Record
record_in b = record { letter = at b 0; fields = three (wide b 2) (wide b 4) (wide b 6) }

-- Eight bytes are a record.
abbrev pub is_record : List ℕ → Bool
is_record b = known_letter (at b 0) && at b 1 == 0

-- The eight bytes of a statement.
abbrev pub record_bytes : Statement → List ℕ
record_bytes s = letter_of s ∷ 0 ∷ (two (fields_of s).first ++ (two (fields_of s).second ++ two (fields_of s).third))

-- The statement that a record gives, if a form has its letter.
unfoldable pub stated : Record → Option Statement
stated x = statement_of x.letter x.fields.first x.fields.second x.fields.third

-- The statements that records give, in order.
abbrev pub keep : Option Statement → List Statement → List Statement
keep None ss = ss
keep (Some s) ss = s ∷ ss

abbrev pub stated_by : List Record → List Statement
stated_by [] = []
stated_by (x ∷ xs) = keep (stated x) (stated_by xs)

-- The first field, from 1, that is not below its count, or is unused and not 0; 0 where no form has the letter.
unfoldable pub wrong_in_record : (n k r : ℕ) → Record → Option ℕ
wrong_in_record n k r x = wrong_by_form n k r (fields_of_form x.letter) x.fields

-- The refusal of the first record with a wrong field, in a row that begins at a place.
abbrev pub records_refusal : (n k r place : ℕ) → List Record → Option Refusal
records_refusal n k r place [] = None
records_refusal n k r place (x ∷ xs) = refuse_field place (wrong_in_record n k r x) (records_refusal n k r (place + 1) xs)
