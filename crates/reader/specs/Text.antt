-- How a text is taken apart. A text is a list of bytes. Each newline ends a line, so a text has one line more than it has
-- newlines. Spaces part the words of a line; spaces at its ends, and more than one in a row, change nothing.
use Rattle.std.specs.Prelude.{ℕ, Bool, cond, ◌&&◌, ◌||◌, List, [], ◌∷◌, length, ◌==◌, nat_le}
use Rattle.std.specs.List.{list_all}

-- A byte in front of the first of some pieces.
unfoldable pub onto : ℕ → List (List ℕ) → List (List ℕ)
onto b [] = (b ∷ []) ∷ []
onto b (piece ∷ more) = (b ∷ piece) ∷ more

-- The pieces of a text that a byte parts: one more than that byte stands in it, and some may be empty.
unfoldable pub pieces : ℕ → List ℕ → List (List ℕ)
pieces cut [] = [] ∷ []
pieces cut (b ∷ bs) = cond (b == cut) ([] ∷ pieces cut bs) (onto b (pieces cut bs))

-- Those that are not empty.
unfoldable pub filled : List (List ℕ) → List (List ℕ)
filled [] = []
filled ([] ∷ more) = filled more
filled ((b ∷ bs) ∷ more) = (b ∷ bs) ∷ filled more

-- The lines of a text; 10 is the newline.
abbrev pub lines : List ℕ → List (List ℕ)
lines text = pieces 10 text

-- The words of a line; 32 is the space.
unfoldable pub words : List ℕ → List (List ℕ)
words line = filled (pieces 32 line)

-- A byte from one to another, both included.
abbrev pub from_to : ℕ → ℕ → ℕ → Bool
from_to low high b = nat_le low b && nat_le b high

-- a-z, 0-9 and the hyphen
abbrev pub name_byte : ℕ → Bool
name_byte b = from_to 97 122 b || from_to 48 57 b || b == 45

-- those, A-Z and the space
abbrev pub line_byte : ℕ → Bool
line_byte b = name_byte b || from_to 65 90 b || b == 32

-- Each of some bytes passes a test.
unfoldable pub all : (ℕ → Bool) → List ℕ → Bool
all test bytes = list_all test bytes

-- A line has at most 120 bytes, each of which a line may have.
abbrev pub proper : List ℕ → Bool
proper line = nat_le (length line) 120 && all line_byte line

-- A name has 1 to 24 bytes, each of which a name may have.
abbrev pub is_name : List ℕ → Bool
is_name word = nat_le 1 (length word) && nat_le (length word) 24 && all name_byte word
