-- Only one header exists for given names and statements: what is written is read again, and two accepted headers with the
-- same names and statements, in the same order, are the same bytes.
use Rattle.std.specs.Prelude.{◌≡◌, ℕ, ◌<◌, true, List, length, None, Ok}
use Rattle.rules.specs.Fits.{base_refusal}
use Rattle.reader.specs.Text.{is_name}
use Rattle.headers.specs.Bytes.{at, all}
use Rattle.headers.specs.Names.{distinct}
use Rattle.headers.specs.Header.{Header, decode, encode}

-- Names of a kind: each is a name, and none stands twice.
pub record Naming (names : List (List ℕ)) : Type 0 where
  pub each : all is_name names ≡ true
  pub once : distinct names ≡ true

-- A header in order: proper names, counts within their limits, and every field fits.
pub record Proper (h : Header) : Type 0 where
  pub individuals : Naming h.individuals
  pub classes : Naming h.classes
  pub roles : Naming h.roles
  pub fitting : base_refusal (length h.individuals) (length h.classes) (length h.roles) h.statements ≡ None

-- Every number in the list is a byte.
abbrev pub Bytes : List ℕ → Type 0
Bytes b = (k : ℕ) → at b k < 256

-- What is written is read again.
abbrev pub ReadBack : Type 0
ReadBack = (h : Header) → Proper h → decode (encode h) ≡ Ok h

-- An accepted file is the only one that holds what it holds.
abbrev pub OneFile : Type 0
OneFile = (b : List ℕ) (h : Header) → Bytes b → decode b ≡ Ok h → encode h ≡ b

-- What is accepted is in order.
abbrev pub AcceptedProper : Type 0
AcceptedProper = (b : List ℕ) (h : Header) → decode b ≡ Ok h → Proper h

-- Two accepted files with the same names and statements are the same.
abbrev pub OnlyOne : Type 0
OnlyOne = (b c : List ℕ) (h : Header) → Bytes b → Bytes c → decode b ≡ Ok h → decode c ≡ Ok h → b ≡ c
