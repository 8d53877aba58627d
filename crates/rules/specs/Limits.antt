-- The limits of a book: 1 to 128 individuals, 1 to 256 classes, 0 to 32 roles and 0 to 384 statements.
-- No book, header or rule text has counts outside them.
use Rattle.std.specs.Prelude.{ℕ, Bool, ◌&&◌, nat_le, List, ◌++◌, codes, decimal}
use Rattle.rules.specs.declared.forms.Kind.{Kind}
use Rattle.rules.specs.declared.forms.Kind.TheVariants as k

-- The most names of a kind.
abbrev pub most : Kind → ℕ
most k.Individual = 128
most k.Class = 256
most k.Role = 32

-- The most statements.
abbrev pub most_statements : ℕ
most_statements = 384

-- Whether counts of individuals, classes, roles and statements are within the limits.
abbrev pub within_limits : ℕ → ℕ → ℕ → ℕ → Bool
within_limits individuals classes roles statements =
    (nat_le 1 individuals && nat_le individuals (most k.Individual)) &&
    ((nat_le 1 classes && nat_le classes (most k.Class)) && (nat_le roles (most k.Role) && nat_le statements most_statements))

-- Counts as a line of text.
abbrev pub counts_text : ℕ → ℕ → ℕ → ℕ → List ℕ
counts_text individuals classes roles statements =
    decimal individuals ++ (codes " individuals " ++ (decimal classes ++ (codes " classes " ++ (decimal roles ++ (codes " roles " ++ (decimal statements ++ codes " statements"))))))
