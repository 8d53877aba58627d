-- A rule text as a header. The header of a text holds its names, as they are spelt, and its statements, both in the order of
-- the text. A text is refused as reading it is, with its line and word; and last of all by 16, with line 0 and word 0, where
-- its header does not fit the output.
use Rattle.std.specs.Prelude.{◌≡◌, ℕ, ◌⊎◌, List, map, Ok, Err}
use Rattle.rules.specs.declared.refusals.Refusal.{Refusal}
use Rattle.reader.specs.declared.reader.Word.{Word}
use Rattle.ruletext.specs.Outcome.{Name, Contents, nothing}
use Rattle.ruletext.specs.Means.{Means}
use Rattle.headers.specs.Header.{Header, encode}
use Rattle.headers.specs.Output.{Wrote, Kept}
use Rattle.intake.specs.Outcomes.{HeaderMeans}

-- The names of a kind, as they are spelt.
abbrev pub spellings : List Name → List (List ℕ)
spellings names = map (λ (x : Name). x.spelt) names

-- The bytes of words.
abbrev pub worded : List Word → List (List ℕ)
worded words = map (λ (w : Word). w.bytes.now) words

-- What the header of a text holds.
abbrev pub header_of : Contents → Header
header_of s = record {
  individuals = spellings s.individuals;
  classes = spellings s.classes;
  roles = spellings s.roles;
  statements = s.statements;
}

-- A text was turned into its header, which stands in front of the output; its names and statements are what has been read.
pub record Turned (text before after : List ℕ) (n : ℕ) (read : Contents) : Type 0 where
  pub means : Means text (Ok read)
  pub wrote : Wrote before after (encode (header_of read)) n

-- The text was refused: nothing has been read, and no byte of the output has changed.
pub record Unread (text before after : List ℕ) (e : Refusal) (read : Contents) : Type 0 where
  pub means : Means text (Err e)
  pub nothing_read : read ≡ nothing
  pub bytes : after ≡ before

-- The text was read, and its header does not fit the output (16): no byte of it has changed.
pub record NoRoom (text before after : List ℕ) (e : Refusal) (read : Contents) : Type 0 where
  pub means : Means text (Ok read)
  pub kept : Kept before after (encode (header_of read)) e

-- One of these two.
abbrev pub NotTurned : (text before after : List ℕ) → Refusal → Contents → Type 0
NotTurned text before after e read = Unread text before after e read ⊎ NoRoom text before after e read

-- The header of a text that is accepted is accepted too, as the names and statements of the text.
abbrev pub TextAccepted : Type 0
TextAccepted = (text : List ℕ) (s : Contents) → Means text (Ok s) → HeaderMeans (encode (header_of s)) (Ok (header_of s))
