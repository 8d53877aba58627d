-- A recovery file, written piece by piece. It is begun with 16 zero bytes and the header; each entry adds fourteen bytes;
-- closing writes the directory over the 16 zero bytes. Beginning and adding are refused by 16 if the output is too short,
-- or if the file would be past 32 bits, and then no byte has changed.
use Rattle.std.specs.Prelude.{◌≡◌, ℕ, ◌+◌, ◌-◌, Bool, true, false, cond, ◌&&◌, List, ◌∷◌, ◌++◌, length, replicate, nat_le}
use Rattle.rules.specs.declared.refusals.Refusal.{Refusal}
use Rattle.headers.specs.Bytes.{two, joined}
use Rattle.headers.specs.Header.{pair}
use Rattle.headers.specs.Output.{laid, fits, too_short}
use Rattle.recovery.specs.declared.entry.Entry.{Entry}

-- The fourteen bytes of an entry.
abbrev pub entry_bytes : Entry → List ℕ
entry_bytes e =
    e.letter ∷ e.rule ∷
    (two e.first ++ (two e.role ++ (two e.second ++ (two e.place ++ (two e.u ++ two e.w)))))

-- The directory of a header and entries of these lengths.
abbrev pub two_pairs : ℕ → ℕ → List ℕ
two_pairs header entries = pair 16 header ++ pair (16 + header) entries

-- A file that is begun: sixteen zero bytes and the header.
abbrev pub begun_bytes : List ℕ → List ℕ
begun_bytes header = replicate 16 0 ++ header

-- A whole file: the directory, the header and the entries.
abbrev pub recovery_bytes : List ℕ → List Entry → List ℕ
recovery_bytes header entries =
    two_pairs (length header) (length (joined entry_bytes entries)) ++ (header ++ joined entry_bytes entries)

-- Where the next entry of a begun file goes; past 32 bits where there was no room to begin.
abbrev pub no_room : ℕ
no_room = 4294967296

abbrev pub begun_at : Bool → ℕ → ℕ
begun_at room header = cond room (16 + header) no_room

-- The output after beginning: unchanged where there was no room.
abbrev pub begun_output : Bool → List ℕ → List ℕ → List ℕ
begun_output room out header = cond room (laid out 0 (begun_bytes header)) out

-- An entry was added at its place, or there was no room for it.
pub record Added (before after : List ℕ) (at next : ℕ) (e : Entry) : Type 0 where
  pub room : fits before (at + 14) ≡ true
  pub next' : next ≡ at + 14
  pub bytes : after ≡ laid before at (entry_bytes e)

pub record Unadded (before : List ℕ) (at : ℕ) (refused : Refusal) : Type 0 where
  pub room : fits before (at + 14) ≡ false
  pub refusal : refused ≡ too_short

-- A file was begun with room: what stands of it lies in the output and has the header in it.
abbrev pub stands : List ℕ → ℕ → ℕ → Bool
stands out at header = fits out at && (nat_le header at && nat_le 16 (at - header))

-- What closing answers and leaves; nothing is written where there was no room to begin.
abbrev pub closed_length : Bool → ℕ → ℕ
closed_length stood at = cond stood at 0

abbrev pub closed_output : Bool → List ℕ → ℕ → ℕ → List ℕ
closed_output stood out at header = cond stood (laid out 0 (two_pairs header (at - (16 + header)))) out
