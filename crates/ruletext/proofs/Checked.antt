use Rattle.rules.specs.Refusals.{refusal as at}
use Rattle.rules.specs.declared.refusals.Reason.TheVariants as because
use Rattle.std.proofs.Common.{◌≡◌, ℕ, ◌+◌, true, false, List, [], ◌∷◌, length, get_or, Some, None, Ok, Err, refl, arith}
use Rattle.reader.specs.Text.{is_name}
use Rattle.ruletext.specs.Outcome.{all_names, only_letter}

module _ (line w : ℕ) (xs : List (List ℕ)) (x : List ℕ) (rest : List (List ℕ)) (e : xs ≡ x ∷ rest) where
  pub names_stop : is_name x ≡ false → all_names line w xs ≡ Err (at because.NotAName line w)
  unfolding all_names
  names_stop h = rw (e, h)

  pub names_more : is_name x ≡ true → all_names line w xs ≡ all_names line (w + 1) rest
  unfolding all_names
  names_more h = rw (e, h)

pub names_end : (line w : ℕ) (xs : List (List ℕ)) → xs ≡ [] → all_names line w xs ≡ Ok tt
unfolding all_names
names_end line w xs e = rw e

pub only_one : (w : List ℕ) → length w ≡ 1 → Some (get_or w 0 0) ≡ only_letter w
only_one [] e = absurd (omega arith)
only_one (b ∷ []) e = refl
only_one (b ∷ c ∷ more) e = absurd (omega arith)

pub not_one : (w : List ℕ) → (length w ≡ 1 → ⊥) → None ≡ only_letter w
not_one [] e = refl
not_one (b ∷ []) e = absurd (e refl)
not_one (b ∷ c ∷ more) e = refl
