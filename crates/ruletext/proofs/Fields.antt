use Rattle.rules.specs.Refusals.{refusal as at}
use Rattle.rules.specs.declared.refusals.Reason.TheVariants as because
use Rattle.std.proofs.Common.{◌≡◌, ℕ, ◌+◌, List, [], ◌∷◌, map, position, Some, None, Ok, Err, Option, sym, ap, ◌∙◌}
use Rattle.std.specs.Str.{bytes_eq}
use Rattle.rules.specs.declared.forms.Kind.{Kind}
use Rattle.ruletext.specs.Outcome.{Contents, names, found, numbers, then}
use Rattle.ruletext.specs.Reading.{spelt}
use Rattle.ruletext.proofs.Finds.{found_spelt}
use Rattle.reader.specs.declared.reader.Word.{Word}
use Rattle.rules.specs.declared.refusals.Refusal.{Refusal}

module _ (line w : ℕ) (s : Contents) (o : Option Kind) (xs : List (List ℕ)) (ks : List (Option Kind)) where
  pub field_off : o ≡ None → numbers line w s (o ∷ ks) xs ≡ then (numbers line w s ks xs) (λ is. Ok (0 ∷ is))
  unfolding numbers
  field_off e = rw e

  pub field_short : (k : Kind) → o ≡ Some k → xs ≡ [] → numbers line w s (o ∷ ks) xs ≡ Err (at because.WrongWordCount line 1)
  unfolding numbers
  field_short k e h = rw (e, h)

  pub field_missing : (k : Kind) (x : List ℕ) (rest : List (List ℕ)) → o ≡ Some k → xs ≡ x ∷ rest → found x (names s k) ≡ None → numbers line w s (o ∷ ks) xs ≡ Err (at because.NotDeclared line w)
  unfolding numbers
  field_missing k x rest e h f = rw (e, h, f)

  pub field_found : (k : Kind) (x : List ℕ) (rest : List (List ℕ)) (i : ℕ) → o ≡ Some k → xs ≡ x ∷ rest → found x (names s k) ≡ Some i
      → numbers line w s (o ∷ ks) xs ≡ then (numbers line (w + 1) s ks rest) (λ is. Ok (i ∷ is))
  unfolding numbers
  field_found k x rest i e h f = rw (e, h, f)

module _ (line w : ℕ) (s : Contents) (o : Option Kind) (xs : List (List ℕ)) (k : Kind) (oe : o ≡ Some k) where
  pub f_short : xs ≡ [] → (l : ℕ) → l ≡ line → (q : Refusal) → q ≡ at because.WrongWordCount l 1 → (ks : List (Option Kind)) → numbers line w s (o ∷ ks) xs ≡ Err q
  f_short e l le q qe ks = field_short line w s o xs ks k oe e ∙ ap Err (sym (qe ∙ ap (λ (v : ℕ). at because.WrongWordCount v 1) le))

  module _ (x : List ℕ) (rest : List (List ℕ)) (e : xs ≡ x ∷ rest) (wl ww : ℕ) (wle : wl ≡ line) (wwe : ww ≡ w)
      (ws : List Word) (nse : map spelt ws ≡ names s k) (f : Option ℕ) (fe : f ≡ position (λ w. bytes_eq w.bytes.now x) ws) where
    sought : found x (names s k) ≡ f
    sought = sym (fe ∙ sym (found_spelt x ws) ∙ ap (found x) nse)

    pub f_missing : f ≡ None → (q : Refusal) → q ≡ at because.NotDeclared wl ww → (ks : List (Option Kind)) → numbers line w s (o ∷ ks) xs ≡ Err q
    f_missing h q qe ks = field_missing line w s o xs ks k x rest oe e (sought ∙ h) ∙ ap Err (sym (qe ∙ ap (λ (v : ℕ). at because.NotDeclared v ww) wle ∙ ap (at because.NotDeclared line) wwe))

    pub f_found : (i : ℕ) → f ≡ Some i → (v : ℕ) → v ≡ ww → (ks : List (Option Kind)) → numbers line w s (o ∷ ks) xs ≡ then (numbers line (v + 1) s ks rest) (λ is. Ok (i ∷ is))
    f_found i h v ve ks = field_found line w s o xs ks k x rest i oe e (sought ∙ h) ∙ ap (λ (u : ℕ). then (numbers line (u + 1) s ks rest) (λ is. Ok (i ∷ is))) (sym (ve ∙ wwe))
