-- The one outcome of a header, admissibility included. Bytes are accepted as a header if their directory, contents, counts and
-- fields are right and their statements are admissible. They are refused by 13, 14, 8 or 7, as the format has it; or else
-- by 9, last of all, with the place of the first statement that breaks its condition.
use Rattle.std.specs.Prelude.{◌≡◌, ℕ, ◌⊎◌, List, Ok, Err, Result}
use Rattle.rules.specs.Refusals.{refusal}
use Rattle.rules.specs.declared.refusals.Refusal.{Refusal}
use Rattle.rules.specs.declared.refusals.Reason.TheVariants.{NotAdmissible}
use Rattle.roles.specs.Roles.{Admissible, FirstBreaking}
use Rattle.headers.specs.Header.{Header, decode, encode}
use Rattle.headers.specs.Theorems.{Proper, Bytes}

-- The format is right, and a statement breaks its condition; the refusal tells the first such place.
pub record Broken (b : List ℕ) (e : Refusal) : Type 0 where
  pub header : Header
  pub formed : decode b ≡ Ok header
  pub place : ℕ
  pub first : FirstBreaking header.statements place
  pub is : e ≡ refusal NotAdmissible place 0

-- Bytes have an outcome as a header.
abbrev pub HeaderMeans : List ℕ → Result Header Refusal → Type 0
HeaderMeans b (Ok h) = (decode b ≡ Ok h) × Admissible h.statements
HeaderMeans b (Err e) = (decode b ≡ Err e) ⊎ Broken b e

-- No bytes have two.
abbrev pub OneHeaderOutcome : List ℕ → Type 0
OneHeaderOutcome b = (o p : Result Header Refusal) → HeaderMeans b o → HeaderMeans b p → o ≡ p

-- What is written of proper, admissible contents is accepted, as these contents.
abbrev pub AcceptedBack : Type 0
AcceptedBack = (h : Header) → Proper h → Admissible h.statements → HeaderMeans (encode h) (Ok h)

-- Two accepted headers with the same contents are the same bytes.
abbrev pub OnlyOneAccepted : Type 0
OnlyOneAccepted = (b c : List ℕ) (h : Header) → Bytes b → Bytes c → HeaderMeans b (Ok h) → HeaderMeans c (Ok h) → b ≡ c
