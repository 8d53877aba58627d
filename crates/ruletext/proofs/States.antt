use Rattle.rules.specs.Refusals.{refusal as at}
use Rattle.rules.specs.declared.refusals.Reason.TheVariants as because
use Rattle.std.proofs.Common.{◌≡◌, ℕ, ◌+◌, List, [], ◌∷◌, length, Ok, Err, Option, Result, sym, ap, ◌∙◌, arith}
use Rattle.std.proofs.lemmas.Bool.{eq-eqb, ne_eqb}
use Rattle.rules.specs.declared.refusals.Refusal.{Refusal}
use Rattle.rules.specs.declared.statements.Statement.{Statement}
use Rattle.rules.specs.declared.forms.Kind.{Kind}
use Rattle.rules.specs.Forms.{used}
use Rattle.rules.specs.Statements.{statement_of}
use Rattle.std.specs.Option.{ok_or}
use Rattle.ruletext.proofs.Given.{known_is}
use Rattle.ruletext.specs.Outcome.{Contents, all_names, numbers, stating, then, known}

-- A field that is read, and one that is refused, whatever follows.
abbrev pub Reads : ℕ → ℕ → ℕ → Contents → Option Kind → List (List ℕ) → List (List ℕ) → ℕ → Type 0
Reads l w v s k xs ys a = (ks : List (Option Kind)) → numbers l w s (k ∷ ks) xs ≡ then (numbers l v s ks ys) (λ is. Ok (a ∷ is))

abbrev pub Refuses : ℕ → ℕ → Contents → Option Kind → List (List ℕ) → Refusal → Type 0
Refuses l w s k xs e = (ks : List (Option Kind)) → numbers l w s (k ∷ ks) xs ≡ Err e

module _ (l : ℕ) (s : Contents) (i j k : Option Kind) (w : ℕ) (xs : List (List ℕ)) where
  pub first_refused : (e : Refusal) → Refuses l w s i xs e → numbers l w s (i ∷ j ∷ k ∷ []) xs ≡ Err e
  first_refused e h = h (j ∷ k ∷ [])

  module _ (w1 : ℕ) (ys : List (List ℕ)) (a : ℕ) (ha : Reads l w w1 s i xs ys a) (l1 : ℕ) (e1 : l1 ≡ l) where
    pub second_refused : (e : Refusal) → Refuses l1 w1 s j ys e → numbers l w s (i ∷ j ∷ k ∷ []) xs ≡ Err e
    second_refused e h = ha (j ∷ k ∷ []) ∙ ap (λ (r : Result (List ℕ) Refusal). then r (λ is. Ok (a ∷ is))) (ap (λ (v : ℕ). numbers v w1 s (j ∷ k ∷ []) ys) (sym e1) ∙ h (k ∷ []))

    module _ (w2 : ℕ) (zs : List (List ℕ)) (b : ℕ) (hb : Reads l1 w1 w2 s j ys zs b) (l2 : ℕ) (e2 : l2 ≡ l1) where
      two : numbers l w s (i ∷ j ∷ k ∷ []) xs ≡ then (then (numbers l2 w2 s (k ∷ []) zs) (λ is. Ok (b ∷ is))) (λ is. Ok (a ∷ is))
      two = ha (j ∷ k ∷ []) ∙ ap (λ (r : Result (List ℕ) Refusal). then r (λ is. Ok (a ∷ is))) (ap (λ (v : ℕ). numbers v w1 s (j ∷ k ∷ []) ys) (sym e1) ∙ hb (k ∷ [])
          ∙ ap (λ (v : ℕ). then (numbers v w2 s (k ∷ []) zs) (λ is. Ok (b ∷ is))) (sym e2))

      pub third_refused : (e : Refusal) → Refuses l2 w2 s k zs e → numbers l w s (i ∷ j ∷ k ∷ []) xs ≡ Err e
      third_refused e h = two ∙ ap (λ (r : Result (List ℕ) Refusal). then (then r (λ is. Ok (b ∷ is))) (λ is. Ok (a ∷ is))) (h [])

      pub all_read : (w3 : ℕ) (us : List (List ℕ)) (c : ℕ) → Reads l2 w2 w3 s k zs us c → numbers l w s (i ∷ j ∷ k ∷ []) xs ≡ Ok (a ∷ b ∷ c ∷ [])
      unfolding numbers
      all_read w3 us c h = two ∙ ap (λ (r : Result (List ℕ) Refusal). then (then r (λ is. Ok (b ∷ is))) (λ is. Ok (a ∷ is))) (h [])

module _ (line w last : ℕ) (s : Contents) (letter : ℕ) (i j k : Option Kind) (xs : List (List ℕ)) (one : w ≡ 1) (t : last ≡ w + length xs) (u : ℕ) (ue : u ≡ used (i ∷ j ∷ k ∷ [])) where
  pub s_count : (last ≡ u + 1 → ⊥) → (e : Refusal) → e ≡ at because.WrongWordCount line 1 → Err e ≡ stating line s letter (i ∷ j ∷ k ∷ []) xs
  unfolding stating
  s_count h e q = sym (rw (ne_eqb (length xs) (used (i ∷ j ∷ k ∷ [])) (λ z. h (omega arith))) (ap Err (sym q)))

  module _ (two : last ≡ u + 1) (r : Result (Unit {0}) Refusal) (a : r ≡ all_names line (w + 1) xs) where
    second : all_names line 2 xs ≡ r
    second = sym (a ∙ ap (λ (v : ℕ). all_names line (v + 1) xs) one)

    pub s_name : (e : Refusal) → r ≡ Err e → (q : Result Statement Refusal) → q ≡ Err e → q ≡ stating line s letter (i ∷ j ∷ k ∷ []) xs
    unfolding stating
    s_name e h q qe = sym (rw (eq-eqb (length xs) (used (i ∷ j ∷ k ∷ [])) (omega arith), second, h) (sym qe))

    module _ (v : Unit {0}) (ok : r ≡ Ok v) where
      numbered : numbers line 2 s (i ∷ j ∷ k ∷ []) xs ≡ numbers line (w + 1) s (i ∷ j ∷ k ∷ []) xs
      numbered = ap (λ (v : ℕ). numbers line (v + 1) s (i ∷ j ∷ k ∷ []) xs) (sym one)

      pub s_field : (e : Refusal) → numbers line (w + 1) s (i ∷ j ∷ k ∷ []) xs ≡ Err e → (q : Result Statement Refusal) → q ≡ Err e → q ≡ stating line s letter (i ∷ j ∷ k ∷ []) xs
      unfolding stating
      s_field e h q qe = sym (rw (eq-eqb (length xs) (used (i ∷ j ∷ k ∷ [])) (omega arith), second, ok, numbered, h) (sym qe))

      module _ (x y z : ℕ) (h : numbers line (w + 1) s (i ∷ j ∷ k ∷ []) xs ≡ Ok (x ∷ y ∷ z ∷ [])) where
        module _ (o : Option Statement) (oe : o ≡ statement_of letter x y z) where
          by : stating line s letter (i ∷ j ∷ k ∷ []) xs ≡ known o (at because.UnknownLetter line 1)
          unfolding stating
          by = rw (eq-eqb (length xs) (used (i ∷ j ∷ k ∷ [])) (omega arith), second, ok, numbered, h)
              (ap (λ (p : Option Statement). known p (at because.UnknownLetter line 1)) (sym oe))

          pub s_new : (q : Refusal) → q ≡ at because.UnknownLetter line 1 → (r : Result Statement Refusal) → r ≡ ok_or o q → r ≡ stating line s letter (i ∷ j ∷ k ∷ []) xs
          s_new q qe r re = re ∙ ap (ok_or o) qe ∙ known_is o (at because.UnknownLetter line 1) ∙ sym by
