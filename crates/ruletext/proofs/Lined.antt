use Rattle.rules.specs.Refusals.{refusal as at}
use Rattle.rules.specs.declared.refusals.Reason.TheVariants as because
use Rattle.std.proofs.Common.{◌≡◌, ℕ, ◌+◌, ◌<◌, ◌≤◌, Bool, true, false, ltb, List, [], ◌∷◌, ◌++◌, map, length, Some, None, Ok, Err, Option, Result, sym, refl, ap, ◌∙◌}
use lib.ListN.{length-map}
use Rattle.std.proofs.lemmas.Bool.{lt-ltb, le-ltb}
use Rattle.rules.specs.declared.refusals.Refusal.{Refusal}
use Rattle.rules.specs.declared.statements.Statement.{Statement}
use Rattle.rules.specs.declared.forms.Kind.{Kind}
use Rattle.reader.specs.Text.{words, proper}
use Rattle.rules.specs.Forms.{FieldKinds, fields_of_form, in_order}
use Rattle.rules.specs.Limits.{most_statements, within_limits}
use Rattle.ruletext.specs.Outcome.{Contents, declares, declared_kind, stating, added, then, check, by_kind, by_form, by_letter, by_first, only_letter, by_line, by_lines, counted}
use Rattle.ruletext.specs.Reading.{spelt}
use Rattle.reader.specs.declared.reader.Word.{Word}

-- A line by its letter.
module _ (line : ℕ) (s : Contents) (letter : ℕ) (xs : List (List ℕ)) (o : Option Kind) (oe : o ≡ declared_kind letter) where
  kinded : by_letter line s letter xs ≡ by_kind line s letter o xs
  unfolding by_letter
  kinded = ap (λ (p : Option Kind). by_kind line s letter p xs) (sym oe)

  pub l_declares : (k : Kind) → o ≡ Some k → by_letter line s letter xs ≡ declares line s k xs
  l_declares k e = kinded ∙ ap (λ (p : Option Kind). by_kind line s letter p xs) e

  module _ (n : o ≡ None) (f : Option FieldKinds) (fe : f ≡ fields_of_form letter) where
    formed : by_letter line s letter xs ≡ by_form line s letter f xs
    formed = kinded ∙ ap (λ (p : Option Kind). by_kind line s letter p xs) n ∙ ap (λ (g : Option FieldKinds). by_form line s letter g xs) (sym fe)

    pub l_unknown : f ≡ None → (q : Refusal) → q ≡ at because.UnknownLetter line 1 → by_letter line s letter xs ≡ Err q
    l_unknown e q qe = formed ∙ ap (λ (g : Option FieldKinds). by_form line s letter g xs) e ∙ ap Err (sym qe)

    module _ (ks : FieldKinds) (e : f ≡ Some ks) (r : Result Statement Refusal) (re : r ≡ stating line s letter (in_order ks) xs) where
      states : by_letter line s letter xs ≡ then r (λ y. check (ltb (length s.statements) most_statements) (at because.CountOutOfLimits line 1) (Ok (added s y line)))
      states = formed ∙ ap (λ (g : Option FieldKinds). by_form line s letter g xs) e
          ∙ ap (λ (r : Result Statement Refusal). then r (λ y. check (ltb (length s.statements) most_statements) (at because.CountOutOfLimits line 1) (Ok (added s y line)))) (sym re)

      pub l_refused : (q : Refusal) → r ≡ Err q → by_letter line s letter xs ≡ Err q
      l_refused q qe = states ∙ rw qe refl

      module _ (y : Statement) (ye : r ≡ Ok y) where
        pub l_full : 384 ≤ length s.statements → (q : Refusal) → q ≡ at because.CountOutOfLimits line 1 → by_letter line s letter xs ≡ Err q
        l_full l q qe = states ∙ rw (ye, le-ltb (length s.statements) 384 l) (ap Err (sym qe))

        pub l_stated : length s.statements < 384 → (ys : List Statement) → ys ≡ s.statements ++ y ∷ [] → (ls : List ℕ) → ls ≡ s.lines ++ line ∷ []
            → by_letter line s letter xs ≡ Ok (record { individuals = s.individuals; classes = s.classes; roles = s.roles; statements = ys; lines = ls })
        l_stated l ys yse ls lse = states ∙ rw (ye, lt-ltb (length s.statements) 384 l) (rw (yse, lse) refl)

-- A line by its bytes.
module _ (line : ℕ) (s : Contents) (bytes : List ℕ) where
  pub l_bytes : proper bytes ≡ false → (q : Refusal) → q ≡ at because.ImproperLine line 1 → by_line line s bytes ≡ Err q
  unfolding by_line
  l_bytes h q qe = rw h (ap Err (sym qe))

  module _ (ok : proper bytes ≡ true) where
    pub l_blank : words bytes ≡ [] → by_line line s bytes ≡ Ok s
    unfolding by_line
    l_blank h = rw (ok, h)

    module _ (x : List ℕ) (rest : List (List ℕ)) (e : words bytes ≡ x ∷ rest) (h : Option ℕ) (he : h ≡ only_letter x) (l : ℕ) (le : l ≡ line) where
      by : by_line line s bytes ≡ by_first l s h rest
      unfolding by_line
      by = rw (ok, e, he, le)

      pub l_long : h ≡ None → (q : Refusal) → q ≡ at because.UnknownLetter l 1 → by_line line s bytes ≡ Err q
      l_long n q qe = by ∙ ap (λ (o : Option ℕ). by_first l s o rest) n ∙ ap Err (sym qe)

      pub l_letter : (c : ℕ) → h ≡ Some c → by_line line s bytes ≡ by_letter l s c rest
      l_letter c n = by ∙ ap (λ (o : Option ℕ). by_first l s o rest) n

-- The lines one after another: what is left gives the whole.
module _ (all : Result Contents Refusal) (n : ℕ) (s : Contents) (left : List (List ℕ)) (inv : all ≡ by_lines (n + 1) s left) where
  pub r_end : left ≡ [] → all ≡ Ok s
  unfolding by_lines
  r_end h = inv ∙ ap (by_lines (n + 1) s) h

  module _ (m : ℕ) (me : m ≡ n + 1) (here : List ℕ) (later : List (List ℕ)) (cut : left ≡ here ∷ later) where
    r_step : all ≡ then (by_line m s here) (λ t. by_lines (m + 1) t later)
    unfolding by_lines
    r_step = inv ∙ ap (by_lines (n + 1) s) cut ∙ ap (λ (v : ℕ). then (by_line v s here) (λ t. by_lines (v + 1) t later)) (sym me)

    pub r_more : (t : Contents) → by_line m s here ≡ Ok t → (v : ℕ) → v ≡ n + 1 → all ≡ by_lines (v + 1) t later
    r_more t e v ve = r_step ∙ ap (λ (r : Result Contents Refusal). then r (λ t. by_lines (m + 1) t later)) e ∙ ap (λ (u : ℕ). by_lines (u + 1) t later) (me ∙ sym ve)

    pub r_refused : (e : Refusal) → by_line m s here ≡ Err e → then all counted ≡ Err e
    r_refused e d = ap (λ (r : Result Contents Refusal). then r counted) (r_step ∙ ap (λ (r : Result Contents Refusal). then r (λ t. by_lines (m + 1) t later)) d)

pub r_last : (all : Result Contents Refusal) (s : Contents) → all ≡ Ok s → (o : Result Contents Refusal) → counted s ≡ o → then all counted ≡ o
r_last all s e o h = ap (λ (r : Result Contents Refusal). then r counted) e ∙ h

-- The counts at the end.
module _ (s : Contents) (i c r n : ℕ) (ie : i ≡ length s.individuals) (ce : c ≡ length s.classes) (re : r ≡ length s.roles) (ne : n ≡ length s.statements) where
  told : (b : Bool) → within_limits i c r n ≡ b → counted s ≡ check b (at because.CountOutOfLimits 0 0) (Ok s)
  told b h =
      let g : within_limits (length s.individuals) (length s.classes) (length s.roles) (length s.statements) ≡ b = rw (← ie, ← ce, ← re, ← ne) h in
      ap (λ (a : Bool). check a (at because.CountOutOfLimits 0 0) (Ok s)) g

  pub c_within : within_limits i c r n ≡ true → counted s ≡ Ok s
  c_within h = told true h

  pub c_outside : within_limits i c r n ≡ false → (e : Refusal) → e ≡ at because.CountOutOfLimits 0 0 → counted s ≡ Err e
  c_outside h e q = told false h ∙ ap Err (sym q)

pub long : (ws : List Word) (n m : ℕ) → n ≡ m → m ≡ length ws → n ≡ length (map spelt ws)
long ws n m e h = e ∙ h ∙ sym (length-map ws spelt)
