-- The entries of a recovery file stand one after the other, fourteen bytes each. They are taken off one by one: the first
-- entry with its fields as numbers, and the bytes after it.
use Rattle.std.specs.Prelude.{◌≡◌, ℕ, ◌<◌, List, ◌++◌}
use Rattle.recovery.specs.declared.entry.Entry.{Entry}
use Rattle.recovery.specs.Begun.{entry_bytes}

-- The numbers of an entry fit its bytes: the letter and the rule have one byte each, every other field has two.
pub record EntryFits (e : Entry) : Type 0 where
  pub letter : e.letter < 256
  pub rule : e.rule < 256
  pub first : e.first < 65536
  pub role : e.role < 65536
  pub second : e.second < 65536
  pub place : e.place < 65536
  pub u : e.u < 65536
  pub w : e.w < 65536

-- The bytes begin with those of the entry e, and `rest` follows.
pub record EntryCut (bytes : List ℕ) (e : Entry) (rest : List ℕ) : Type 0 where
  pub is : bytes ≡ entry_bytes e ++ rest
  pub fits : EntryFits e
