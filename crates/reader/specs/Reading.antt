-- Where a reader stands in its text, and what its calls do: which lines and words are left before and after. A reader
-- hands out lines, and a line hands out words.
use Rattle.std.specs.Prelude.{◌≡◌, ℕ, ◌+◌, List, [], ◌∷◌, Some, None, Option}
use Rattle.std.specs.Borrow.{Bor}
use Rattle.reader.specs.declared.reader.Word.{Word}
use Rattle.reader.specs.declared.reader.Line.{Line}
use Rattle.reader.specs.declared.reader.Reader.{Reader}
use Rattle.reader.specs.Text.{lines, words}

-- The lines that a reader has not come to, and the words left in a line.
abbrev pub lines_of : Option (Bor (List ℕ)) → List (List ℕ)
lines_of None = []
lines_of (Some text) = lines text.now

abbrev pub lines_left : Reader → List (List ℕ)
lines_left r = lines_of r.rest

abbrev pub words_left : Line → List (List ℕ)
words_left l = words l.here.now

-- A reader before the first line of a text.
pub record AtStart (text : List ℕ) (r : Reader) : Type 0 where
  pub ahead : lines_left r ≡ lines text
  pub line : r.line ≡ 0

-- It handed out the next line, of which no word is taken.
pub record NextLine (before : Reader) (l : Line) (after : Reader) : Type 0 where
  pub taken : lines_left before ≡ l.here.now ∷ lines_left after
  pub in_line : l.line ≡ before.line + 1
  pub word : l.word ≡ 0
  pub line : after.line ≡ before.line + 1

-- There was no line left, and it stayed where it was.
pub record NoLine (before after : Reader) : Type 0 where
  pub over : lines_left before ≡ []
  pub same : after ≡ before

-- A line handed out its next word.
pub record NextWord (before : Line) (w : Word) (after : Line) : Type 0 where
  pub taken : words_left before ≡ w.bytes.now ∷ words_left after
  pub in_line : w.line ≡ before.line
  pub in_word : w.word ≡ before.word + 1
  pub word : after.word ≡ before.word + 1
  pub line : after.line ≡ before.line

-- There was no word left in it, and it stayed where it was.
pub record NoWord (before after : Line) : Type 0 where
  pub over : words_left before ≡ []
  pub same : after ≡ before
