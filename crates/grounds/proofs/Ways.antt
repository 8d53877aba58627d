-- A ground gives a fact exactly if the definitions of the check say so.
use mathlib.Core.Path.{◌≡◌, refl, sym, subst, ap, ap₂, ◌∙◌}
use mathlib.Core.Bool.{Bool, false}
use mathlib.Core.List.{List, []}
use mathlib.Core.Logic.{inl, inr, ⊎_elim}
use Prim.Native.Nat.{ℕ, ◌+◌, ◌≤◌}
use native.Mathlib.Omega.{arith}
use lib.ListN.{length}
use Rattle.rules.specs.Limits.{most_statements}
use Rattle.rules.specs.Places.{At, at_one}
use Rattle.rules.specs.Formed.{AllWellFormed}
use Rattle.rules.specs.declared.statements.Statement.{Statement}
use Rattle.rules.specs.declared.statements.Statement.TheVariants.{Empty}
use Rattle.calculus.specs.Trees.{All, all_more}
use Rattle.calculus.specs.Tests.{Decides}
use Rattle.calculus.specs.Terms.{first_number, first_at, second_at, ground_of, by_rule}
use Rattle.calculus.specs.Steps.{rule_1, rule_2, rule_4, rule_27, rule_28, rule_29}
use Rattle.calculus.specs.Numbers.{FirstInside, Inside}
use Rattle.calculus.proofs.Contained.{step_inside}
use Rattle.calculus.specs.declared.terms.First.{First}
use Rattle.calculus.specs.declared.terms.First.TheVariants as first
use Rattle.calculus.specs.declared.terms.Second.TheVariants as second
use Rattle.calculus.specs.declared.terms.Ground.{Ground}
use Rattle.calculus.specs.declared.terms.Fact.{Fact}
use Rattle.calculus.specs.declared.terms.Fact.TheVariants.{Instance, SelfPair, Pair}
use Rattle.linetable.specs.Table.{key, lines, in_four, fill, start, finish, ground_at, Among, Fits}
use Rattle.linetable.specs.Fitting.{fits_touches, fits_suits, fits_in, among_in, in_among}
use Rattle.linetable.specs.Lines.{Way, by_line, alone, looped, clash, there_to, back_from, along, complete, sound}
use Rattle.linetable.specs.declared.shapes.Line.{Line}
use Rattle.grounds.specs.Given.{Held, GivesHeld, given_for, LineGives, SaidGives}
use Rattle.grounds.specs.Rules.{ByRule1, ByRule2, ByRule4, ByRule27, ByRule28, ByRule29, Unplaced, Placed}
use Rattle.calculus.specs.TermNumbers.{first_at_its_number, second_at_its_number, first_number_at, second_number_at}
use Rattle.grounds.proofs.Back.{back}

module _ (n k r : ℕ) (ss : List Statement) (held : ℕ → Bool) where
  abbrev H : Fact → Type 0
  H f = Held n k r held f

  abbrev G : Ground → Fact → Type 0
  G w f = GivesHeld n k r ss held w f

  -- ── the definitions give ──
  rule_1_gives : (f : Fact) (w : Ground) → ByRule1 n f w → G w f
  rule_1_gives (Instance (first.Individual x) (second.Individual y)) w h =
      subst (λ v. G v (Instance (first.Individual x) (second.Individual y))) (sym h.2)
      (subst (λ z. G (by_rule 1 0) (Instance (first.Individual x) (second.Individual z))) h.1 (record { premises = []; step = rule_1 h.0; given = tt }))
  rule_1_gives (Instance (first.Individual x) (second.Class C)) w h = absurd h
  rule_1_gives (Instance (first.Witness p) y) w h = absurd h
  rule_1_gives (SelfPair x v) w h = absurd h
  rule_1_gives (Pair x v y) w h = absurd h

  rule_2_gives : (f : Fact) (w : Ground) → ByRule2 n k r held f w → G w f
  rule_2_gives (Instance x y) w h = absurd h
  rule_2_gives (SelfPair (first.Individual x) v) w h = subst (λ o. G o (SelfPair (first.Individual x) v)) (sym h.2) (record { premises = _; step = rule_2 h.0; given = (h.1, tt) })
  rule_2_gives (SelfPair (first.Witness p) v) w h = absurd h
  rule_2_gives (Pair x v y) w h = absurd h

  rule_27_gives : (f : Fact) (w : Ground) → ByRule27 n k r held f w → G w f
  rule_27_gives (Instance (first.Individual x) z) w h =
      subst (λ o. G o (Instance (first.Individual x) z)) (ap (by_rule 27) (first_number_at n w.u) ∙ sym h.3)
      (record { premises = _; step = rule_27 {x = x} {u = first_at n w.u} {z = z} h.0; given = (h.1, (h.2, tt)) })
  rule_27_gives (Instance (first.Witness p) z) w h = absurd h
  rule_27_gives (SelfPair x v) w h = absurd h
  rule_27_gives (Pair x v y) w h = absurd h

  rule_28_gives : (f : Fact) (w : Ground) → ByRule28 n k r held f w → G w f
  rule_28_gives (Instance x z) w h =
      subst (λ o. G o (Instance x z)) (sym h.3) (record { premises = _; step = rule_28 {u = w.u} {x = x} {z = z} h.0; given = (h.1, (h.2, tt)) })
  rule_28_gives (SelfPair x v) w h = absurd h
  rule_28_gives (Pair x v y) w h = absurd h

  rule_29_gives : (f : Fact) (w : Ground) → ByRule29 n k r held f w → G w f
  rule_29_gives (Instance x z) w h = absurd h
  rule_29_gives (SelfPair x v) w h = absurd h
  rule_29_gives (Pair x v (first.Individual y)) w h =
      subst (λ o. G o (Pair x v (first.Individual y))) (ap (by_rule 29) (first_number_at n w.u) ∙ sym h.3)
      (record { premises = _; step = rule_29 {y = y} {R = v} {x = x} {u = first_at n w.u} h.0; given = (h.1, (h.2, tt)) })
  rule_29_gives (Pair x v (first.Witness p)) w h = absurd h

  rule_4_gives : (f : Fact) (w : Ground) (p A : ℕ) → At ss p (Empty A) → ByRule4 n k r p A held f w → G w f
  rule_4_gives (Instance x (second.Class C)) w p A at h =
      subst (λ o. G o (Instance x (second.Class C))) (ap₂ (λ s t. ground_of 4 (p + 1) s t) (first_number_at n w.u) (second_number_at n w.w) ∙ sym h.3)
      (record { premises = _; step = rule_4 {p = p} {A = A} {C = C} {u = first_at n w.u} {x = x} {w = second_at n w.w} at h.0; given = (h.1, (h.2, tt)) })
  rule_4_gives (Instance x (second.Individual y)) w p A at h = absurd h
  rule_4_gives (SelfPair x v) w p A at h = absurd h
  rule_4_gives (Pair x v y) w p A at h = absurd h

  pub unplaced_gives : (f : Fact) (w : Ground) → Unplaced n k r held f w → G w f
  unplaced_gives f w h = ⊎_elim (rule_1_gives f w) (⊎_elim (rule_2_gives f w) (⊎_elim (rule_27_gives f w) (⊎_elim (rule_28_gives f w) (rule_29_gives f w)))) h

  said_gives : (f : Fact) (w : Ground) (p : ℕ) (s : Statement) → At ss p s → SaidGives n k r held f w (key s) p (in_four (lines p s)) → G w f
  said_gives f w p s at h =
      let g = given_for n f w (key s) h.line in
      let i = in_among (lines p s) h.among in
      let o = sound n k ss H s (finish f) at i (fits_in (key s) h.line.pair g h.gives.0.0 h.gives.0.1) h.gives.0.2 h.gives.1 in
      subst (λ v. G v f) h.gives.3 (subst (λ t. G (ground_at n p h.line g) t) h.gives.2.0 o)

  pub placed_gives : (f : Fact) (w : Ground) (p : ℕ) (s : Statement) → At ss p s → Placed n k r p s held f w → G w f
  placed_gives f w p s at h = ⊎_elim (said_gives f w p s at) (λ c. rule_4_gives f w p c.0 (subst (At ss p) c.1 at) c.2) h

  -- ── what gives is in the definitions ──
  starts : (f : Fact) → H f → FirstInside n (start f)
  starts (Instance x y) h = h.inside.0
  starts (SelfPair x v) h = h.inside.0
  starts (Pair x v y) h = h.inside.0

  ends : (f : Fact) → H f → FirstInside n (finish f)
  ends (Instance x y) h = h.inside.0
  ends (SelfPair x v) h = h.inside.0
  ends (Pair x v y) h = h.inside.2

  abbrev W : Fact → Ground → Type 0
  W f w = Way n k ss H (FirstInside n) f w

  way : (f : Fact) (w : Ground) → G w f → W f w
  way f w g = complete n k ss H (FirstInside n) starts ends g.step g.given

  at_term : (P : First → Fact) (x : First) → FirstInside n x → H (P x) → H (P (first_at n (first_number n x)))
  at_term P x i h = subst (λ t. H (P t)) (sym (first_at_its_number n x i)) h

  way_unplaced : {f : Fact} {w : Ground} → W f w → w.place ≡ 0 → Unplaced n k r held f w
  way_unplaced (by_line {p = p} z at i f zi m d) e = absurd (omega arith)
  way_unplaced (alone l) e = inl (l, refl, refl)
  way_unplaced (looped l m) e = inr (inl (l, m, refl))
  way_unplaced (clash at l mu mx) e = absurd (omega arith)
  way_unplaced (there_to {x = x} {u = u} {z = z} l m d) e = inr (inr (inl (l, at_term (λ t. Instance t (second.Individual x)) u m.inside.0 m, at_term (λ t. Instance t z) u m.inside.0 d, refl)))
  way_unplaced (back_from l m d) e = inr (inr (inr (inl (l, m, d, refl))))
  way_unplaced (along {y = y} {R = R} {x = x} {u = u} l m d) e = inr (inr (inr (inr (l, at_term (λ t. Pair x R t) u m.inside.0 d, at_term (λ t. Instance t (second.Individual y)) u m.inside.0 m, refl))))

  -- a statement at some place that gives
  record Stated (f : Fact) (w : Ground) : Type 0 where
    place : ℕ
    statement : Statement
    at : At ss place statement
    is : w.place ≡ place + 1
    gives : Placed n k r place statement held f w

  line_gives : (s : Statement) (p : ℕ) {l : Line} {g : Fact} (z : First) → Among l (lines p s) → Fits (key s) l.pair g → H g → H (fill g z l.second) → Inside n k r (fill g z l.conclusion) → LineGives n k r held (fill g z l.conclusion) (ground_at n p l g) (key s) p l
  line_gives s p {l} {g} z i f m d ins =
      let b = back n k r s p z i f m.inside in
      let e = sym b.given in
      let F = fill g z l.conclusion in
      let fits = subst (λ t. Fits (key s) l.pair t) e f in (
        (fits_touches fits, fits_suits fits, subst (λ t. H t) e m),
        subst (λ t. H (fill t (finish F) l.second)) e (subst (λ t. H t) (sym b.second) d),
        (subst (λ t. fill t (finish F) l.conclusion ≡ F) e b.conclusion, ins),
        subst (λ t. ground_at n p l t ≡ ground_at n p l g) e refl,
      )

  way_stated : {f : Fact} {w : Ground} → W f w → (w.place ≡ 0 → ⊥) → Inside n k r f → Stated f w
  way_stated (by_line {s = s} {p = p} {l = l} {g = g} z at i f zi m d) e ins = record {
    place = p;
    statement = s;
    at = at;
    is = refl;
    gives = inl (record { line = l; among = among_in (lines p s) i; gives = line_gives s p z i f m d ins });
  }
  way_stated (alone l) e ins = absurd (e refl)
  way_stated (looped l m) e ins = absurd (e refl)
  way_stated (clash {p = p} {A = A} {C = C} {u = u} {x = x} {w = w} at l mu mx) e ins = record {
    place = p;
    statement = Empty A;
    at = at;
    is = refl;
    gives = inr (A, refl, (l, at_term (λ t. Instance t (second.Class A)) u mu.inside.0 mu, subst (λ t. H (Instance x t)) (sym (second_at_its_number n k w mx.inside.1)) mx, refl));
  }
  way_stated (there_to l m d) e ins = absurd (e refl)
  way_stated (back_from l m d) e ins = absurd (e refl)
  way_stated (along l m d) e ins = absurd (e refl)

  stated_here : (f : Fact) (w : Ground) (st : Stated f w) (p : ℕ) (s : Statement) → At ss p s → w.place ≡ p + 1 → Placed n k r p s held f w
  stated_here f w st p s at e =
      let q : st.place ≡ p = omega (arith, st.is) in
      let t : st.statement ≡ s = at_one (subst (λ o. At ss o st.statement) q st.at) at in
      subst (λ o. Placed n k r p o held f w) t (subst (λ o. Placed n k r o st.statement held f w) q st.gives)

  module _ (formed : AllWellFormed n k r ss) (few : length ss ≤ most_statements) where
    inside_all : (fs : List Fact) → All H fs → All (Inside n k r) fs
    inside_all fs h = all_more H (Inside n k r) (λ f u. u.inside) fs h

    -- ── the answers of the check ──
    pub by_no_statement : (f : Fact) (w : Ground) (t : Bool) → w.place ≡ 0 → Decides t (Unplaced n k r held f w) → Decides t (G w f)
    by_no_statement f w t e d = record { out = λ h. unplaced_gives f w (d.out h); back = λ g. d.back (way_unplaced (way f w g) e) }

    pub by_statement_at : (f : Fact) (w : Ground) (t : Bool) (p : ℕ) (s : Statement) → At ss p s → w.place ≡ p + 1 → Decides t (Placed n k r p s held f w) → Decides t (G w f)
    by_statement_at f w t p s at e d = record {
      out = λ h. placed_gives f w p s at (d.out h);
      back = λ g. d.back (stated_here f w (way_stated (way f w g) (λ z. absurd (omega arith)) (step_inside n k r ss formed few g.step (inside_all g.premises g.given))) p s at e);
    }

    pub by_no_place : (f : Fact) (w : Ground) (p : ℕ) → w.place ≡ p + 1 → length ss ≤ p → Decides false (G w f)
    by_no_place f w p e l = record {
      out = λ h. elim h [ ];
      back = λ g. absurd (
          let st = way_stated (way f w g) (λ z. absurd (omega arith)) (step_inside n k r ss formed few g.step (inside_all g.premises g.given)) in
          omega (arith, st.is, st.at.low));
    }
