-- A part of names: lines, each ended by byte 10. Each is a name as in a rule text, 1 to 24 of a-z, 0-9 and hyphen, and no line
-- stands twice.
use Rattle.std.specs.Prelude.{ℕ, Bool, true, cond, not, ◌&&◌, List, [], ◌∷◌, ◌++◌, ◌==◌}
use Rattle.std.specs.List.{list_any}
use Rattle.std.specs.Str.{bytes_eq}
use Rattle.reader.specs.Text.{is_name}
use Rattle.headers.specs.Bytes.{all}

-- the lines of a part: what stands before each byte 10
abbrev pub on_first : ℕ → List (List ℕ) → List (List ℕ)
on_first b [] = []
on_first b (x ∷ xs) = (b ∷ x) ∷ xs

abbrev pub lines : List ℕ → List (List ℕ)
lines [] = []
lines (b ∷ bs) = cond (b == 10) ([] ∷ lines bs) (on_first b (lines bs))

-- whether the last byte is a 10, where `last` stands before the bytes; an empty part, after a 10, has ended too
abbrev pub ended : ℕ → List ℕ → Bool
ended last [] = last == 10
ended last (b ∷ bs) = ended b bs

-- whether a line is among others
abbrev pub is_in : List ℕ → List (List ℕ) → Bool
is_in x ys = list_any (bytes_eq x) ys

-- no line stands twice
abbrev pub distinct : List (List ℕ) → Bool
distinct [] = true
distinct (x ∷ xs) = not (is_in x xs) && distinct xs

-- a part of names is right
abbrev pub are_names : List ℕ → Bool
are_names b = ended 10 b && (all is_name (lines b) && distinct (lines b))

-- a name with its end
abbrev pub line : List ℕ → List ℕ
line x = x ++ (10 ∷ [])
