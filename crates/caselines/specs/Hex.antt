-- Bytes in hexadecimal. A line is read two places at a time: two digits give a byte, and two places that are not both digits
-- give none. The digits are 0 to 9 and the small letters a to f. A place that is left over at the end gives nothing.
use Rattle.std.specs.Prelude.{ℕ, ◌+◌, ◌-◌, ◌*◌, cond, ◌&&◌, List, [], ◌∷◌, ◌++◌, Some, None, Option, nat_le}

abbrev pub digit : ℕ → Option ℕ
digit b = cond (nat_le 48 b && nat_le b 57) (Some (b - 48)) (cond (nat_le 97 b && nat_le b 102) (Some (b - 97 + 10)) None)

-- What two places give.
abbrev pub pair_bytes : Option ℕ → Option ℕ → List ℕ
pair_bytes (Some high) (Some low) = (high * 16 + low) ∷ []
pair_bytes (Some high) None = []
pair_bytes None low = []

abbrev pub hex_bytes : List ℕ → List ℕ
hex_bytes [] = []
hex_bytes (high ∷ []) = []
hex_bytes (high ∷ low ∷ rest) = pair_bytes (digit high) (digit low) ++ hex_bytes rest
