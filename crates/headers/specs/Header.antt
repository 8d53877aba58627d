-- The header. It starts with a directory of four pairs, each an offset and a length of 32 bits. Then come four parts: the
-- names of the individuals, of the classes and of the roles, and the statements. The first part starts after the
-- directory, each next one where the last one ended, and the final one ends the file.
-- Whatever bytes are handed in, the outcome is one: names and statements, or the first of these refusals.
--   13   the directory is wrong                         place: the first wrong part, from 1
--   14   the content of a part is wrong                 place: the first wrong part, from 1
--   8    a count leaves its limits
--   7    a field is not below its count, or is unused and not 0        place: the statement's, from 0; field: from 1
-- Refusal 9, of statements that are not admissible, comes after all of these and is judged elsewhere.
use Rattle.std.specs.Prelude.{◌≡◌, ℕ, ◌+◌, ◌*◌, Bool, true, cond, not, ◌&&◌, List, ◌++◌, map, length, Some, None, Ok, Err, Option, Result, ◌==◌, nat_le}
use Rattle.rules.specs.Limits.{within_limits}
use Rattle.rules.specs.Refusals.{refusal}
use Rattle.rules.specs.declared.refusals.Reason.TheVariants as reason
use Rattle.rules.specs.declared.refusals.Refusal.{Refusal}
use Rattle.rules.specs.declared.statements.Statement.{Statement}
use Rattle.headers.specs.declared.record.Record.{Record}
use Rattle.headers.specs.Bytes.{long, four, slice, cut, even, all, joined}
use Rattle.headers.specs.Names.{lines, are_names, line}
use Rattle.headers.specs.Records.{record_in, record_bytes, is_record, stated_by, records_refusal}

-- What a header holds.
pub record Header : Type 0 where
  pub individuals : List (List ℕ)
  pub classes : List (List ℕ)
  pub roles : List (List ℕ)
  pub statements : List Statement

-- Where a part starts, how long it is and where it ends, by its pair in the directory; parts here count from 0.
abbrev pub offset : List ℕ → ℕ → ℕ
offset b i = long b (8 * i)

abbrev pub size : List ℕ → ℕ → ℕ
size b i = long b (8 * i + 4)

abbrev pub end_at : List ℕ → ℕ → ℕ
end_at b place = long b place + long b (place + 4)

abbrev pub end : List ℕ → ℕ → ℕ
end b i = end_at b (8 * i)

abbrev pub part : List ℕ → ℕ → List ℕ
part b i = slice b (offset b i) (size b i)

-- A part's pair lies in the file, and the part starts where it should.
abbrev pub starts_at : List ℕ → ℕ → ℕ → Bool
starts_at b place should = nat_le (place + 8) (length b) && long b place == should

abbrev pub starts : List ℕ → ℕ → ℕ → Bool
starts b i should = starts_at b (8 * i) should

-- Refusal 13: the first wrong part is told, from 1.
abbrev pub wrong_directory : ℕ → Option Refusal
wrong_directory place = Some (refusal reason.WrongDirectory place 0)

abbrev pub directory_refusal : List ℕ → Option Refusal
directory_refusal b =
    cond (not (starts b 0 32)) (wrong_directory 1)
    (cond (not (starts b 1 (end b 0))) (wrong_directory 2)
    (cond (not (starts b 2 (end b 1))) (wrong_directory 3)
    (cond (not (starts b 3 (end b 2) && end b 3 == length b)) (wrong_directory 4) None)))

-- A part of statements is right: whole records.
abbrev pub are_records : List ℕ → Bool
are_records b = even 8 b && all is_record (cut 8 b)

-- The records and the statements of a part.
abbrev pub records_in : List ℕ → List Record
records_in b = map record_in (cut 8 b)

abbrev pub statements_in : List ℕ → List Statement
statements_in b = stated_by (records_in b)

-- Refusal 14: the first part with wrong content is told, from 1.
abbrev pub wrong_content : ℕ → Option Refusal
wrong_content place = Some (refusal reason.WrongContent place 0)

abbrev pub content_refusal : List ℕ → List ℕ → List ℕ → List ℕ → Option Refusal
content_refusal x c v s =
    cond (not (are_names x)) (wrong_content 1)
    (cond (not (are_names c)) (wrong_content 2)
    (cond (not (are_names v)) (wrong_content 3)
    (cond (not (are_records s)) (wrong_content 4) None)))

-- Refusals 8 and 7: counts within their limits, then each record's fields.
abbrev pub judgement : (n k r m : ℕ) → List Record → Option Refusal
judgement n k r m xs =
    cond (within_limits n k r m) (records_refusal n k r 0 xs) (Some (refusal reason.CountOutOfLimits 0 0))

-- What four parts hold.
abbrev pub holding : List ℕ → List ℕ → List ℕ → List ℕ → Header
holding x c v s = record { individuals = lines x; classes = lines c; roles = lines v; statements = statements_in s }

-- A refusal, if there is one, comes before all that follows it.
abbrev pub refuse : {X : Type 0} → Option Refusal → Result X Refusal → Result X Refusal
refuse (Some e) after = Err e
refuse None after = after

-- The header that four parts hold, or the refusal.
abbrev pub judged : List ℕ → List ℕ → List ℕ → List ℕ → Result Header Refusal
judged x c v s =
    refuse (judgement (length (lines x)) (length (lines c)) (length (lines v)) (length (records_in s)) (records_in s)) (Ok (holding x c v s))

abbrev pub of_parts : List ℕ → List ℕ → List ℕ → List ℕ → Result Header Refusal
of_parts x c v s = refuse (content_refusal x c v s) (judged x c v s)

-- The header in a file, or the refusal.
abbrev pub decode : List ℕ → Result Header Refusal
decode b = refuse (directory_refusal b) (of_parts (part b 0) (part b 1) (part b 2) (part b 3))

-- The same with the directory and the contents judged alone, by 13 and 14.
abbrev pub contents : List ℕ → Result Header Refusal
contents b =
    refuse (directory_refusal b)
    (refuse (content_refusal (part b 0) (part b 1) (part b 2) (part b 3)) (Ok (holding (part b 0) (part b 1) (part b 2) (part b 3))))

-- Four parts as a file.
abbrev pub pair : ℕ → ℕ → List ℕ
pair from size = four from ++ four size

abbrev pub directory : ℕ → ℕ → ℕ → ℕ → List ℕ
directory x c v s =
    pair 32 x ++ (pair (32 + x) c ++ (pair (32 + x + c) v ++ pair (32 + x + c + v) s))

abbrev pub file_of : List ℕ → List ℕ → List ℕ → List ℕ → List ℕ
file_of x c v s = directory (length x) (length c) (length v) (length s) ++ (x ++ (c ++ (v ++ s)))

-- A header of these names and statements.
abbrev pub listing : List (List ℕ) → List (List ℕ) → List (List ℕ) → List Statement → Header
listing individuals classes roles statements = record {
  individuals = individuals;
  classes = classes;
  roles = roles;
  statements = statements;
}

-- A header as a file.
abbrev pub encode : Header → List ℕ
encode h = file_of (joined line h.individuals) (joined line h.classes) (joined line h.roles) (joined record_bytes h.statements)

-- The header with the names in three parts and other statements.
abbrev pub renamed : List ℕ → List ℕ → List ℕ → List Statement → Header
renamed x c v ss = listing (lines x) (lines c) (lines v) ss

-- Three parts of names are right.
pub record Named (x c v : List ℕ) : Type 0 where
  pub individuals : are_names x ≡ true
  pub classes : are_names c ≡ true
  pub roles : are_names v ≡ true
