use Rattle.rules.specs.Refusals.{refusal as at}
use Rattle.rules.specs.declared.refusals.Reason.TheVariants as because
use Rattle.std.proofs.Common.{◌≡◌, ℕ, ◌+◌, ◌<◌, ◌≤◌, Bool, true, false, List, ◌∷◌, map, length, position, is_some, Ok, Err, Option, Result, sym, ap, ◌∙◌, arith}
use lib.ListN.{length-map}
use Rattle.std.proofs.lemmas.Bool.{eq-eqb, ne_eqb, lt-ltb, le-ltb}
use Rattle.rules.specs.declared.refusals.Refusal.{Refusal}
use Rattle.rules.specs.declared.forms.Kind.{Kind}
use Rattle.ruletext.specs.Outcome.{Contents, names, found, all_names, new_name, declares, declared}
use Rattle.rules.specs.Limits.{most}
use Rattle.ruletext.specs.Reading.{spelt}
use Rattle.ruletext.proofs.Finds.{found_spelt}
use Rattle.std.specs.Str.{bytes_eq}
use Rattle.reader.specs.declared.reader.Word.{Word}

module _ (line : ℕ) (s : Contents) (k : Kind) (xs : List (List ℕ)) where
  pub not_two : (length xs ≡ 1 → ⊥) → declares line s k xs ≡ Err (at because.WrongWordCount line 1)
  unfolding declares
  not_two h = rw (ne_eqb (length xs) 1 h)

  pub no_name : length xs ≡ 1 → (e : Refusal) → all_names line 2 xs ≡ Err e → declares line s k xs ≡ Err e
  unfolding declares
  no_name h e a = rw (eq-eqb (length xs) 1 h, a)

  module _ (h : length xs ≡ 1) (u : Unit {0}) (a : all_names line 2 xs ≡ Ok u) where
    pub then_new : declares line s k xs ≡ new_name line s k xs
    unfolding declares
    then_new = rw (eq-eqb (length xs) 1 h, a)

    module _ (x : List ℕ) (rest : List (List ℕ)) (e : xs ≡ x ∷ rest) where
      pub before : is_some (found x (names s k)) ≡ true → declares line s k xs ≡ Err (at because.DeclaredBefore line 2)
      unfolding new_name
      before f = then_new ∙ rw (e, f)

      pub full : is_some (found x (names s k)) ≡ false → most k ≤ length (names s k) → declares line s k xs ≡ Err (at because.CountOutOfLimits line 1)
      unfolding new_name
      full f l = then_new ∙ rw (e, f, le-ltb (length (names s k)) (most k) l)

      pub put : is_some (found x (names s k)) ≡ false → length (names s k) < most k → declares line s k xs ≡ Ok (declared s k (record { spelt = x; line = line; word = 2 }))
      unfolding new_name
      put f l = then_new ∙ rw (e, f, lt-ltb (length (names s k)) (most k) l)

-- The same over what the code has at hand: the number w of the first word, that of the last, what the checks answered.
module _ (line w last : ℕ) (s : Contents) (k : Kind) (xs : List (List ℕ)) (one : w ≡ 1) (t : last ≡ w + length xs) where
  pub d_not_two : (last ≡ 2 → ⊥) → (e : Refusal) → e ≡ at because.WrongWordCount line 1 → declares line s k xs ≡ Err e
  d_not_two h e q = not_two line s k xs (λ l. h (omega arith)) ∙ ap Err (sym q)

  module _ (two : last ≡ 2) (r : Result (Unit {0}) Refusal) (a : r ≡ all_names line (w + 1) xs) where
    second : all_names line 2 xs ≡ r
    second = sym (a ∙ ap (λ (v : ℕ). all_names line (v + 1) xs) one)

    pub d_no_name : (e : Refusal) → r ≡ Err e → declares line s k xs ≡ Err e
    d_no_name e q = no_name line s k xs (omega arith) e (second ∙ q)

    module _ (u : Unit {0}) (ok : r ≡ Ok u) (x : List ℕ) (rest : List (List ℕ)) (e : xs ≡ x ∷ rest) (wl ww : ℕ) (wle : wl ≡ line) (wwe : ww ≡ w + 1)
        (ws : List Word) (nse : map spelt ws ≡ names s k) (f : Option ℕ) (fe : f ≡ position (λ w. bytes_eq w.bytes.now x) ws) (some : Bool) (se : some ≡ is_some f) where
      known : some ≡ is_some (found x (names s k))
      known = se ∙ ap is_some (fe ∙ sym (found_spelt x ws) ∙ ap (found x) nse)

      many : length ws ≡ length (names s k)
      many = sym (length-map ws spelt) ∙ ap length nse

      pub d_before : some ≡ true → (q : Refusal) → q ≡ at because.DeclaredBefore wl ww → declares line s k xs ≡ Err q
      d_before h q qe = before line s k xs (omega arith) u (second ∙ ok) x rest e (sym known ∙ h) ∙ ap Err (sym (qe ∙ ap (λ (l : ℕ). at because.DeclaredBefore l ww) wle ∙ ap (at because.DeclaredBefore line) (wwe ∙ ap (λ (v : ℕ). v + 1) one)))

      pub d_full : some ≡ false → (m : ℕ) → m ≡ most k → m ≤ length ws → (q : Refusal) → q ≡ at because.CountOutOfLimits wl 1 → declares line s k xs ≡ Err q
      d_full h m me l q qe = full line s k xs (omega arith) u (second ∙ ok) x rest e (sym known ∙ h) (let c = many in omega arith) ∙ ap Err (sym (qe ∙ ap (λ (l : ℕ). at because.CountOutOfLimits l 1) wle))

      pub d_put : some ≡ false → (m : ℕ) → m ≡ most k → length ws < m → (s2 : Contents) → s2 ≡ declared s k (record { spelt = x; line = wl; word = ww }) → declares line s k xs ≡ Ok s2
      d_put h m me l s2 te =
          let c = many in
          put line s k xs (omega arith) u (second ∙ ok) x rest e (sym known ∙ h) (omega arith)
          ∙ ap Ok (sym (te ∙ ap (λ (l : ℕ). declared s k (record { spelt = x; line = l; word = ww })) wle ∙ ap (λ (v : ℕ). declared s k (record { spelt = x; line = line; word = v })) (wwe ∙ ap (λ (v : ℕ). v + 1) one)))
