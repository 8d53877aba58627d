-- What holds of every text, said without following the reader line by line.
use Rattle.std.specs.Prelude.{◌≡◌, ℕ, ◌-◌, ◌<◌, true, List, [], ◌∷◌, length, get_or, Some, None, Option, ◌≢◌, slice_index, slice_index_or}
use Rattle.rules.specs.Forms.{FieldKinds, fields_of_form, in_order}
use Rattle.rules.specs.Limits.{within_limits}
use Rattle.rules.specs.Statements.{statement_of}
use Rattle.rules.specs.declared.forms.Kind.{Kind}
use Rattle.rules.specs.declared.statements.Statement.{Statement}
use Rattle.reader.specs.Cut.{Each}
use Rattle.reader.specs.Text.{lines, words, is_name}
use Rattle.ruletext.specs.Outcome.{Name, Contents, names, declared_kind}

-- Each of some things with the number beside it.
abbrev pub EachWith : {X : Type 0} → (X → ℕ → Type 0) → List X → List ℕ → Type 0
EachWith P [] [] = Unit {0}
EachWith P [] (n ∷ ns) = ⊥
EachWith P (x ∷ xs) [] = ⊥
EachWith P (x ∷ xs) (n ∷ ns) = P x n × EachWith P xs ns

-- The words of the line with a number, which counts from 1.
abbrev pub words_of : List ℕ → ℕ → List (List ℕ)
words_of text line = words (slice_index_or (lines text) (line - 1) [])

-- A name stands in its line, as the word after the letter that declares its kind.
pub record DeclaredIn (text : List ℕ) (k : Kind) (x : Name) : Type 0 where
  pub letter : ℕ
  pub kind : declared_kind letter ≡ Some k
  pub line : words_of text x.line ≡ (letter ∷ []) ∷ x.spelt ∷ []
  pub word : x.word ≡ 2
  pub name : is_name x.spelt ≡ true

-- The name with a number is spelt so.
pub record Called (s : Contents) (k : Kind) (i : ℕ) (word : List ℕ) : Type 0 where
  pub low : i < length (names s k)
  pub is : (get_or (names s k) i (record { spelt = []; line = 0; word = 0 })).spelt ≡ word

-- Numbers of fields, and words that call the names with these numbers; a field not in use is 0 and has no word.
abbrev pub FieldsCalled : Contents → List (Option Kind) → List ℕ → List (List ℕ) → Type 0
FieldsCalled s [] [] [] = Unit {0}
FieldsCalled s [] [] (x ∷ xs) = ⊥
FieldsCalled s [] (i ∷ is) xs = ⊥
FieldsCalled s (None ∷ ks) [] xs = ⊥
FieldsCalled s (None ∷ ks) (i ∷ is) xs = (i ≡ 0) × FieldsCalled s ks is xs
FieldsCalled s (Some k ∷ ks) [] xs = ⊥
FieldsCalled s (Some k ∷ ks) (i ∷ is) [] = ⊥
FieldsCalled s (Some k ∷ ks) (i ∷ is) (x ∷ xs) = Called s k i x × FieldsCalled s ks is xs

-- A statement stands in its line: the letter of its form, then the names of its fields.
pub record StatedIn (text : List ℕ) (s : Contents) (x : Statement) (at : ℕ) : Type 0 where
  pub letter : ℕ
  pub fields : List ℕ
  pub called : List (List ℕ)
  pub kinds : FieldKinds
  pub form : fields_of_form letter ≡ Some kinds
  pub is : statement_of letter (slice_index fields 0) (slice_index fields 1) (slice_index fields 2) ≡ Some x
  pub line : words_of text at ≡ (letter ∷ []) ∷ called
  pub names : FieldsCalled s (in_order kinds) fields called

-- No name stands twice.
abbrev pub Apart : List Name → Type 0
Apart [] = Unit {0}
Apart (x ∷ xs) = Each (λ y. y.spelt ≢ x.spelt) xs × Apart xs

-- What an accepted text gives is in order: counts within the limits, no name twice in a kind, and every name and
-- every statement is what its own line says.
pub record Orderly (text : List ℕ) (s : Contents) : Type 0 where
  pub counts : within_limits (length s.individuals) (length s.classes) (length s.roles) (length s.statements) ≡ true
  pub apart : (k : Kind) → Apart (names s k)
  pub declared : (k : Kind) → Each (DeclaredIn text k) (names s k)
  pub stated : EachWith (StatedIn text s) s.statements s.lines
