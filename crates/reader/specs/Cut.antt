-- The lines of a text are the one way to cut it at its newlines.
use Rattle.std.specs.Prelude.{◌≡◌, ℕ, List, [], ◌∷◌, ◌++◌, ◌≢◌}
use Rattle.reader.specs.Text.{lines}

-- Pieces with the byte that parts them put back.
abbrev pub rejoin : ℕ → List (List ℕ) → List ℕ
rejoin cut [] = []
rejoin cut (p ∷ []) = p
rejoin cut (p ∷ q ∷ more) = p ++ cut ∷ rejoin cut (q ∷ more)

-- Each of a list has a property.
abbrev pub Each : {X : Type 0} → (X → Type 0) → List X → Type 0
Each P [] = Unit {0}
Each P (x ∷ xs) = P x × Each P xs

abbrev pub Lacks : ℕ → List ℕ → Type 0
Lacks cut bytes = Each (λ b. b ≢ cut) bytes

-- The lines of a text are the one way to cut it: no line has a newline, and joined by newlines they are the text.
pub record LinesWhole (text : List ℕ) : Type 0 where
  pub joined : rejoin 10 (lines text) ≡ text
  pub cut : Each (Lacks 10) (lines text)
