-- What the lines of a rule text give: names and statements, or the one refusal that they get. Whether the statements are
-- admissible is judged last, in Means.
-- Lines are read in order, the checks of a line in the order below, and the first refusal decides.
-- A refusal has a reason, a line and a word; lines and words count from 1.
--   1  a byte that no line may have, or over 120 bytes     the line, word 1
--   2  the first word is no letter that begins a line      the line, word 1
--   3  the wrong number of words                           the line, word 1
--   4  a word after the letter is no name                  the line, that word
--   5  the name was declared before in its kind            the line, word 2
--   6  the name is not declared above                      the line, that word
--   8  one name or statement too many                      the line, word 1
--   8  too few names at the end                            line 0, word 0
use Rattle.std.specs.Prelude.{ℕ, ◌+◌, Bool, true, false, cond, List, [], ◌∷◌, ◌++◌, length, is_some, position, Some, None, Ok, Err, Option, Result, ◌==◌, nat_lt, slice_index}
use Rattle.std.specs.Str.{bytes_eq}
use Rattle.rules.specs.Forms.{FieldKinds, fields_of_form, in_order, used}
use Rattle.rules.specs.Limits.{most, most_statements, within_limits}
use Rattle.rules.specs.Refusals.{refusal as at}
use Rattle.rules.specs.Statements.{statement_of}
use Rattle.rules.specs.declared.forms.Kind.{Kind}
use Rattle.rules.specs.declared.forms.Kind.TheVariants as k
use Rattle.rules.specs.declared.refusals.Refusal.{Refusal}
use Rattle.rules.specs.declared.refusals.Reason.TheVariants as because
use Rattle.rules.specs.declared.statements.Statement.{Statement}
use Rattle.reader.specs.Text.{lines, words, proper, is_name}

-- A declared name, with the line and word where it stands.
pub record Name : Type 0 where
  pub spelt : List ℕ
  pub line : ℕ
  pub word : ℕ

-- What has been read: the names of each kind, and the statements and their lines, in the order of the text.
pub record Contents : Type 0 where
  pub individuals : List Name
  pub classes : List Name
  pub roles : List Name
  pub statements : List Statement
  pub lines : List ℕ

abbrev pub nothing : Contents
nothing = record { individuals = []; classes = []; roles = []; statements = []; lines = [] }

abbrev pub names : Contents → Kind → List Name
names s k.Individual = s.individuals
names s k.Class = s.classes
names s k.Role = s.roles

-- One name more.
abbrev pub declared : Contents → Kind → Name → Contents
declared s k.Individual name = record { individuals = s.individuals ++ name ∷ []; classes = s.classes; roles = s.roles; statements = s.statements; lines = s.lines }
declared s k.Class name = record { individuals = s.individuals; classes = s.classes ++ name ∷ []; roles = s.roles; statements = s.statements; lines = s.lines }
declared s k.Role name = record { individuals = s.individuals; classes = s.classes; roles = s.roles ++ name ∷ []; statements = s.statements; lines = s.lines }

-- One statement more, with its line.
abbrev pub added : Contents → Statement → ℕ → Contents
added s x line = record { individuals = s.individuals; classes = s.classes; roles = s.roles; statements = s.statements ++ x ∷ []; lines = s.lines ++ line ∷ [] }

-- The place of a name among some.
abbrev pub found : List ℕ → List Name → Option ℕ
found x ns = position (λ y. bytes_eq y.spelt x) ns

-- Where the test is passed, what follows; else the refusal.
abbrev pub check : {X : Type 0} → Bool → Refusal → Result X Refusal → Result X Refusal
check true e after = after
check false e after = Err e

-- What follows from a value; a refusal stays.
abbrev pub then : {X Y : Type 0} → Result X Refusal → (X → Result Y Refusal) → Result Y Refusal
then (Ok x) after = after x
then (Err e) after = Err e

-- The value that is there; else the refusal.
abbrev pub known : {X : Type 0} → Option X → Refusal → Result X Refusal
known None e = Err e
known (Some x) e = Ok x

-- Each of some words, the first being the w-th of the line, is a name.
unfoldable pub all_names : ℕ → ℕ → List (List ℕ) → Result (Unit {0}) Refusal
all_names line w [] = Ok tt
all_names line w (x ∷ xs) = check (is_name x) (at because.NotAName line w) (all_names line (w + 1) xs)

-- The numbers of a statement's fields, by the names in some words, the first being the w-th; 0 for a field not in use.
unfoldable pub numbers : ℕ → ℕ → Contents → List (Option Kind) → List (List ℕ) → Result (List ℕ) Refusal
numbers line w s [] xs = Ok []
numbers line w s (None ∷ ks) xs = then (numbers line w s ks xs) (λ is. Ok (0 ∷ is))
numbers line w s (Some k ∷ ks) [] = Err (at because.WrongWordCount line 1)
numbers line w s (Some k ∷ ks) (x ∷ xs) =
    then (known (found x (names s k)) (at because.NotDeclared line w)) (λ i. then (numbers line (w + 1) s ks xs) (λ is. Ok (i ∷ is)))

-- A name that is declared anew.
unfoldable pub new_name : ℕ → Contents → Kind → List (List ℕ) → Result Contents Refusal
new_name line s k [] = Err (at because.WrongWordCount line 1)
new_name line s k (x ∷ xs) =
    check (cond (is_some (found x (names s k))) false true) (at because.DeclaredBefore line 2)
    (check (nat_lt (length (names s k)) (most k)) (at because.CountOutOfLimits line 1)
    (Ok (declared s k (record { spelt = x; line = line; word = 2 }))))

-- A line that declares a name, by its words after the letter.
unfoldable pub declares : ℕ → Contents → Kind → List (List ℕ) → Result Contents Refusal
declares line s k xs =
    check (length xs == 1) (at because.WrongWordCount line 1)
    (then (all_names line 2 xs) (λ _. new_name line s k xs))

-- A statement with a letter and its fields' numbers.
abbrev pub by_numbers : ℕ → ℕ → List ℕ → Result Statement Refusal
by_numbers line letter is = known (statement_of letter (slice_index is 0) (slice_index is 1) (slice_index is 2)) (at because.UnknownLetter line 1)

-- What a line states, by its letter, the kinds of its fields, and its words after the letter.
unfoldable pub stating : ℕ → Contents → ℕ → List (Option Kind) → List (List ℕ) → Result Statement Refusal
stating line s letter ks xs =
    check (length xs == used ks) (at because.WrongWordCount line 1)
    (then (all_names line 2 xs) (λ _.
    then (numbers line 2 s ks xs) (by_numbers line letter)))

-- The kind of name that a letter declares: X (88), C (67) and R (82).
abbrev pub declared_kind : ℕ → Option Kind
declared_kind letter = cond (letter == 88) (Some k.Individual) (cond (letter == 67) (Some k.Class) (cond (letter == 82) (Some k.Role) None))

abbrev pub by_form : ℕ → Contents → ℕ → Option FieldKinds → List (List ℕ) → Result Contents Refusal
by_form line s letter None xs = Err (at because.UnknownLetter line 1)
by_form line s letter (Some ks) xs =
    then (stating line s letter (in_order ks) xs) (λ x.
    check (nat_lt (length s.statements) most_statements) (at because.CountOutOfLimits line 1) (Ok (added s x line)))

abbrev pub by_kind : ℕ → Contents → ℕ → Option Kind → List (List ℕ) → Result Contents Refusal
by_kind line s letter (Some k) xs = declares line s k xs
by_kind line s letter None xs = by_form line s letter (fields_of_form letter) xs

-- A line by its letter and its words after it.
unfoldable pub by_letter : ℕ → Contents → ℕ → List (List ℕ) → Result Contents Refusal
by_letter line s letter xs = by_kind line s letter (declared_kind letter) xs

-- The letter of a word that is one letter.
abbrev pub only_letter : List ℕ → Option ℕ
only_letter [] = None
only_letter (b ∷ []) = Some b
only_letter (b ∷ c ∷ more) = None

abbrev pub by_first : ℕ → Contents → Option ℕ → List (List ℕ) → Result Contents Refusal
by_first line s None xs = Err (at because.UnknownLetter line 1)
by_first line s (Some letter) xs = by_letter line s letter xs

-- A line by its words; one without words changes nothing.
abbrev pub by_words : ℕ → Contents → List (List ℕ) → Result Contents Refusal
by_words line s [] = Ok s
by_words line s (x ∷ xs) = by_first line s (only_letter x) xs

unfoldable pub by_line : ℕ → Contents → List ℕ → Result Contents Refusal
by_line line s bytes = check (proper bytes) (at because.ImproperLine line 1) (by_words line s (words bytes))

unfoldable pub by_lines : ℕ → Contents → List (List ℕ) → Result Contents Refusal
by_lines line s [] = Ok s
by_lines line s (l ∷ ls) = then (by_line line s l) (λ t. by_lines (line + 1) t ls)

-- At the end the counts are within the limits; since no line passed one, only too few can be wrong.
abbrev pub counted : Contents → Result Contents Refusal
counted s =
    check (within_limits (length s.individuals) (length s.classes) (length s.roles) (length s.statements))
    (at because.CountOutOfLimits 0 0) (Ok s)

-- What a text gives by its lines.
abbrev pub by_text : List ℕ → Result Contents Refusal
by_text text = then (by_lines 1 nothing (lines text)) counted
