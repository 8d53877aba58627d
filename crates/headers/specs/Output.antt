-- What a call that writes leaves in the memory that it was lent. It is refused by 16 if the memory is too short for the
-- file, or if the file would be past 32 bits; then no byte has changed.
use Rattle.std.specs.Prelude.{◌≡◌, ℕ, ◌+◌, Bool, true, false, ◌&&◌, List, ◌++◌, length, take, drop, nat_le, nat_lt}
use Rattle.rules.specs.Refusals.{refusal}
use Rattle.rules.specs.declared.refusals.Reason.TheVariants.{OutputTooShort}
use Rattle.rules.specs.declared.refusals.Refusal.{Refusal}

-- The bytes at a place written over, all others as they were.
abbrev pub laid : List ℕ → ℕ → List ℕ → List ℕ
laid out at bytes = take at out ++ (bytes ++ drop (at + length bytes) out)

-- So many bytes are few enough for the memory, and for 32 bits.
abbrev pub fits : List ℕ → ℕ → Bool
fits out size = nat_le size (length out) && nat_lt size 4294967296

abbrev pub too_short : Refusal
too_short = refusal OutputTooShort 0 0

-- The file stands in front, its length is answered, and the bytes past it are as they were.
pub record Wrote (before after file : List ℕ) (n : ℕ) : Type 0 where
  pub room : fits before (length file) ≡ true
  pub size : n ≡ length file
  pub bytes : after ≡ file ++ drop (length file) before

-- There was no room, and nothing has changed.
pub record Kept (before after file : List ℕ) (e : Refusal) : Type 0 where
  pub room : fits before (length file) ≡ false
  pub refused : e ≡ too_short
  pub bytes : after ≡ before
