-- Names written one by one: what is left of them, one name on.
use Rattle.std.proofs.Common.{◌≡◌, ℕ, ◌+◌, ◌<◌, ◌≤◌, List, [], ◌∷◌, ◌++◌, map, length, get_or, drop, sym, ap, ◌∙◌, arith, length-append}
use Rattle.std.proofs.lemmas.List.{drop_more}
use Rattle.headers.specs.Bytes.{joined}
use Rattle.headers.specs.Names.{line}
use Rattle.headers.specs.Output.{laid}
use Rattle.headers.proofs.Laying.{laid_on}

-- the lines of the names from the i-th on
abbrev pub lines_from : {X : Type 0} → (X → List ℕ) → List X → ℕ → List ℕ
lines_from items xs i = joined line (map items (drop i xs))

module _ {X : Type 0} (items : X → List ℕ) (xs : List X) (i : ℕ) (x : X) (b : List ℕ) (l : i < length xs) (e : x ≡ get_or xs i x) (t : b ≡ items x) where
  next_line : lines_from items xs i ≡ line b ++ lines_from items xs (i + 1)
  next_line =
      ap (λ (ys : List X). joined line (map items ys)) (drop_more xs i x l ∙ ap (λ y. y ∷ drop (i + 1) xs) (sym e))
      ∙ ap (λ v. line v ++ lines_from items xs (i + 1)) (sym t)

  pub next_length : length (lines_from items xs i) ≡ length b + 1 + length (lines_from items xs (i + 1))
  next_length = ap length next_line ∙ (length-append (line b) (lines_from items xs (i + 1)) ∙ ap (λ n. n + length (lines_from items xs (i + 1))) (length-append b (10 ∷ [])))

  pub next_laid : (o : List ℕ) (at : ℕ) → at + length (lines_from items xs i) ≤ length o →
      laid (laid o at (line b)) (at + (length b + 1)) (lines_from items xs (i + 1)) ≡ laid o at (lines_from items xs i)
  next_laid o at h =
      laid_on o at (at + (length b + 1)) (line b) (lines_from items xs (i + 1)) (omega (arith, length-append b (10 ∷ []))) (omega (arith, length-append b (10 ∷ []), next_length, h))
      ∙ ap (laid o at) (sym next_line)
