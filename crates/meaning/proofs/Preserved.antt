-- Each rule keeps what facts say, so every fact with a proof tree says what is so.
use Rattle.std.proofs.Common.{◌≡◌, ℕ, ◌⊎◌, List, sym, refl, ◌∙◌, subst, subst₂, inl, inr, ⊎_elim}
use Rattle.rules.specs.declared.statements.Statement.{Statement}
use Rattle.rules.specs.declared.statements.Statement.TheVariants.{Empty, Requires, Chain}
use Rattle.calculus.specs.Trees.{All, fold}
use Rattle.calculus.specs.Places.{At, AllWellFormed}
use Rattle.roles.specs.Roles.{Admissible, IsSimple, IsRange, Gives, chain_nonsimple, subrole_nonsimple, stated_range, subrole_range}
use Rattle.meaning.proofs.RoleSteps.{role_tree, role_fold}
use Rattle.calculus.specs.Steps.{Step, Follows, by, HasTree}
use Rattle.calculus.specs.Steps.{rule_1, rule_2, rule_3, rule_4, rule_5a, rule_5e, rule_5f, rule_5g, rule_6, rule_7, rule_8, rule_9j, rule_9b, rule_10j, rule_10b, rule_11, rule_12, rule_13, rule_14, rule_15, rule_16, rule_17, rule_18, rule_19, rule_20, rule_21, rule_22, rule_23, rule_24, rule_25, rule_26, rule_27, rule_28, rule_29}
use Rattle.roles.specs.declared.facts.RoleFact.{RoleFact}
use Rattle.roles.specs.declared.facts.RoleFact.TheVariants.{NonSimple, Range}
use Rattle.calculus.specs.declared.terms.First.{First}
use Rattle.calculus.specs.declared.terms.First.TheVariants as first
use Rattle.calculus.specs.declared.terms.Second.TheVariants as second
use Rattle.calculus.specs.declared.terms.Ground.{Ground}
use Rattle.calculus.specs.declared.terms.Fact.{Fact}
use Rattle.calculus.specs.declared.terms.Fact.TheVariants.{Instance, SelfPair, Pair}
use Rattle.meaning.specs.Interpretations.{Interpretation, Thing, InClass, InRole, SatisfiesAll}
use Rattle.meaning.specs.Meanings.{Required, StandsFor, StandsForSome, Describes, PairSays, Says}
use Rattle.meaning.specs.Theorems.{Proper, Soundness}

same_required : {ss : List Statement} {p A V B A' V' B' : ℕ} → At ss p (Requires A V B) → At ss p (Requires A' V' B') → (V ≡ V') × (B ≡ B')
same_required a b = let e = a.is in let f = b.is in (cc, cc)

module _ {n : ℕ} (k r : ℕ) (ss : List Statement) (I : Interpretation n) where
  abbrev Is : First → ℕ → Type 0
  Is c t = StandsFor I ss c t

  -- The pairs that a witness stands for by.
  abbrev RequiredTo : First → ℕ → ℕ → Type 0
  RequiredTo (first.Individual x) s t = ⊥
  RequiredTo (first.Witness p) s t = Required I ss p s t

  required_is : (d : First) (s t : ℕ) → RequiredTo d s t → Is d t
  required_is (first.Individual x) s t e = elim e [ ]
  required_is (first.Witness p) s t e = (s, e)

  -- Each pair from c to d is in R; or each thing of c has a required pair to d, and those pairs are in R.
  abbrev Strong : First → ℕ → First → Type 0
  Strong c R d = ((s t : ℕ) → Is c s → Is d t → InRole I R s t) ⊎ (((s : ℕ) → Is c s → (t : ℕ) × RequiredTo d s t) × ((s t : ℕ) → Is c s → RequiredTo d s t → InRole I R s t))

  -- What a pair says, and more where its role is simple.
  record Linked (c : First) (R : ℕ) (d : First) : Type 0 where
    says : PairSays I ss c R d
    strong : IsSimple ss R → Strong c R d

  abbrev Means : Fact → Type 0
  Means (Instance c y) = Says I ss (Instance c y)
  Means (SelfPair c R) = Says I ss (SelfPair c R)
  Means (Pair c R d) = Linked c R d

  means_says : (f : Fact) → Means f → Says I ss f
  means_says (Instance c y) h = h
  means_says (SelfPair c R) h = h
  means_says (Pair c R d) h = h.says

  abbrev RoleSays : RoleFact → Type 0
  RoleSays (NonSimple R) = Unit {0}
  RoleSays (Range R D) = (s t : ℕ) → InRole I R s t → InClass I D t

  module _ (well_formed : AllWellFormed n k r ss) (admissible : Admissible ss) (sat : SatisfiesAll I ss) where
    role_step : (p : ℕ) (s : Statement) (fs : List RoleFact) (f : RoleFact) → At ss p s → Gives s fs f → All RoleSays fs → RoleSays f
    role_step p _ _ _ a chain_nonsimple h = tt
    role_step p _ _ _ a subrole_nonsimple h = tt
    role_step p _ _ _ a stated_range h = λ s t e. (sat _ _ a s t e).1
    role_step p _ _ _ a subrole_range h = λ s t e. h.0 s t (sat _ _ a s t e)

    in_range : {R D : ℕ} → IsRange ss R D → (s t : ℕ) → InRole I R s t → InClass I D t
    in_range h = role_fold RoleSays role_step h

    is_thing : (c : First) (t : ℕ) → Is c t → Thing I t
    is_thing (first.Individual x) t h = subst (λ u. Thing I u) (sym h.1) (I.individual_thing x h.0)
    is_thing (first.Witness p) t h = I.class_things _ _ h.1.to

    required : {p A V B : ℕ} → At ss p (Requires A V B) → (s : ℕ) → InClass I A s → (t : ℕ) × Required I ss p s t
    required {A} {V} {B} a s e = let w = sat _ _ a s e in (w.0, record { A = A; V = V; B = B; at = a; from = e; pair = w.1; to = w.2 })

    required_role : {p A V B s t : ℕ} → At ss p (Requires A V B) → Required I ss p s t → InRole I V s t
    required_role {s} {t} a e = subst (λ q. InRole I q s t) (same_required e.at a).0 e.pair

    required_class : {p A V B s t : ℕ} → At ss p (Requires A V B) → Required I ss p s t → InClass I B t
    required_class {t} a e = subst (λ q. InClass I q t) (same_required e.at a).1 e.to

    -- All pairs from c to d are in R.
    linked_all : (c : First) (R : ℕ) (d : First) → StandsForSome I ss c → StandsForSome I ss d → ((s t : ℕ) → Is c s → Is d t → InRole I R s t) → Linked c R d
    linked_all c R d u v f = record {
      says = record {
        start = u;
        end = v;
        pairs = λ s e. (v.0, f s v.0 e v.1, v.1);
        ranges = λ D t g i. in_range g u.0 t (f u.0 t u.1 i);
      };
      strong = λ m. inl f;
    }

    linked_chain : {p R S Q : ℕ} (c d : First) → At ss p (Chain R S Q) → StandsForSome I ss c → StandsForSome I ss d → ((s : ℕ) → Is c s → (t : ℕ) × InRole I Q s t × Is d t) → ((D t : ℕ) → IsRange ss S D → Is d t → InClass I D t) → Linked c Q d
    linked_chain c d a u v f g = record {
      says = record { start = u; end = v; pairs = f; ranges = λ D t m i. g D t (admissible _ _ a D m) i };
      strong = λ m. absurd (m (role_tree a chain_nonsimple tt));
    }

    pairs_both : (c d : First) (R S : ℕ) → PairSays I ss c R d → PairSays I ss c S d → Strong c R d → Strong c S d → (s : ℕ) → Is c s → (t : ℕ) × InRole I R s t × InRole I S s t × Is d t
    pairs_both c d R S u v (inl f) g s e = let w = v.pairs s e in (w.0, f s w.0 e w.2, w.1, w.2)
    pairs_both c d R S u v (inr f) (inl g) s e = let w = u.pairs s e in (w.0, w.1, g s w.0 e w.2, w.2)
    pairs_both c d R S u v (inr f) (inr g) s e = let w = f.0 s e in (w.0, f.1 s w.0 e w.1, g.1 s w.0 e w.1, required_is d s w.0 w.1)

    strong_both : (c d : First) (R S Q : ℕ) → ((s t : ℕ) → InRole I R s t → InRole I S s t → InRole I Q s t) → Strong c R d → Strong c S d → Strong c Q d
    strong_both c d R S Q q (inl f) (inl g) = inl (λ s t e i. q s t (f s t e i) (g s t e i))
    strong_both c d R S Q q (inl f) (inr g) = inr (g.0, λ s t e i. q s t (f s t e (required_is d s t i)) (g.1 s t e i))
    strong_both c d R S Q q (inr f) (inl g) = inr (f.0, λ s t e i. q s t (f.1 s t e i) (g s t e (required_is d s t i)))
    strong_both c d R S Q q (inr f) (inr g) = inr (f.0, λ s t e i. q s t (f.1 s t e i) (g.1 s t e i))

    preserve : {why : Ground} {fs : List Fact} {f : Fact} → Step n k ss why fs f → All Means fs → Means f
    preserve (rule_1 {x} l) h = ((I.individual x, (l, refl)), λ t e. e.1)
    preserve (rule_2 {R} l) h = (h.0.says.start, λ s e. let w = h.0.says.pairs s e in subst (λ t. InRole I R s t) (w.2.1 ∙ sym e.1) w.1)
    preserve (rule_3 a) h = (h.0.0, λ t e. sat _ _ a t (is_thing _ t e))
    preserve (rule_4 a l) h = absurd (sat _ _ a h.0.0.0 (h.0.1 _ h.0.0.1))
    preserve (rule_5a {C} a) h = (h.0.0, λ t e. subst (λ u. InClass I C u) (sym (h.0.1 t e)) (sat _ _ a))
    preserve (rule_5e a) h = (h.0.0, λ t e. sat _ _ a t (h.0.1 t e))
    preserve (rule_5f {C} a) h = (h.0.0, λ t e. subst (λ u. InClass I C u) (sym (h.0.1 t e)) (sat _ _ a))
    preserve (rule_5g a) h = (h.0.0, λ t e. sat _ _ a t (h.0.1 t e))
    preserve (rule_6 a) h = (h.0.0, λ t e. sat _ _ a t (h.0.1 t e) (h.1.0.1 t e))
    preserve (rule_7 a) h = (h.0.says.start, λ t e. let w = h.0.says.pairs t e in sat _ _ a t w.0 w.1 (h.1.0.1 w.0 w.2))
    preserve (rule_8 a) h = (h.0.0, λ t e. sat _ _ a t t (h.0.1 t e) (h.1.0.1 t e))
    preserve (rule_9j a) h = record {
      says = record {
        start = h.0.0;
        end = let w = required a h.0.0.0 (h.0.1 _ h.0.0.1) in (w.0, (h.0.0.0, w.1));
        pairs = λ s e. let w = required a s (h.0.1 s e) in (w.0, required_role a w.1, (s, w.1));
        ranges = λ D t g i. in_range g i.0 t (required_role a i.1);
      };
      strong = λ m. inr (λ s e. required a s (h.0.1 s e), λ s t e g. required_role a g);
    }
    preserve (rule_9b {y} {R} {z} {x} a) h = linked_all x R (first.Individual z) h.0.0 (I.individual z, ((well_formed _ _ a).2, refl)) (λ s t e i. subst₂ (λ u v. InRole I R u v) (sym (h.0.1 s e)) (sym i.1) (sat _ _ a))
    preserve (rule_10j a) h = (let w = required a h.0.0.0 (h.0.1 _ h.0.0.1) in (w.0, (h.0.0.0, w.1)), λ t e. required_class a e.1)
    preserve (rule_10b {z} a) h = ((I.individual z, ((well_formed _ _ a).2, refl)), λ t e. e.1)
    preserve (rule_11 a) h = (h.0.0, λ t e. sat _ _ a t (h.0.1 t e))
    preserve (rule_12 a) h = (h.0.0, λ t e. sat _ _ a t (h.0.1 t e))
    preserve (rule_13 {x} {y} a) h = record {
      says = record {
        start = h.0.says.start;
        end = h.0.says.end;
        pairs = λ s e. let w = h.0.says.pairs s e in (w.0, sat _ _ a s w.0 w.1, w.2);
        ranges = λ D t g i. h.0.says.ranges D t (role_tree a subrole_range (g, tt)) i;
      };
      strong = λ m. elim (h.0.strong (λ g. m (role_tree a subrole_nonsimple (g, tt)))) [
        | inl f ↦ inl (λ s t e i. sat _ _ a s t (f s t e i))
        | inr f ↦ inr (f.0, λ s t e i. sat _ _ a s t (f.1 s t e i))
      ];
    }
    preserve (rule_14 a) h = (h.0.0, λ t e. sat _ _ a t t (h.0.1 t e))
    preserve (rule_15 {x} {y} a) h = linked_chain x y a h.0.says.start h.1.0.says.end (λ s e. let v = h.0.says.pairs s e in let w = h.1.0.says.pairs v.0 v.2 in (w.0, sat _ _ a s v.0 w.0 v.1 w.1, w.2)) h.1.0.says.ranges
    preserve (rule_16 {x} {y} a) h = linked_chain x y a h.0.0 h.1.0.says.end (λ s e. let w = h.1.0.says.pairs s e in (w.0, sat _ _ a s s w.0 (h.0.1 s e) w.1, w.2)) h.1.0.says.ranges
    preserve (rule_17 {x} {y} a) h = linked_chain x y a h.0.says.start h.0.says.end (λ s e. let w = h.0.says.pairs s e in (w.0, sat _ _ a s w.0 w.0 w.1 (h.1.0.1 w.0 w.2), w.2)) (λ D t g i. in_range g t t (h.1.0.1 t i))
    preserve (rule_18 {x} a) h = linked_chain x x a h.0.0 h.0.0 (λ s e. (s, sat _ _ a s s s (h.0.1 s e) (h.1.0.1 s e), e)) (λ D t g i. in_range g t t (h.1.0.1 t i))
    preserve (rule_19 {R} {S} {Q} {x} {y} a) h =
        let f = h.0.strong (admissible _ _ a).0 in
        let g = h.1.0.strong (admissible _ _ a).1 in
        record {
          says = record {
            start = h.0.says.start;
            end = h.0.says.end;
            pairs = λ s e. let w = pairs_both x y R S h.0.says h.1.0.says f g s e in (w.0, sat _ _ a s w.0 w.1 w.2, w.3);
            ranges = λ D t m i. ⊎_elim (λ l. h.0.says.ranges D t l i) (λ l. h.1.0.says.ranges D t l i) ((admissible _ _ a).2 D m);
          };
          strong = λ m. strong_both x y R S Q (sat _ _ a) f g;
        }
    preserve (rule_20 a) h = (h.0.0, λ t e. sat _ _ a t t (h.0.1 t e) (h.1.0.1 t e))
    preserve (rule_21 {R} {x} {z} a) h = linked_all x R z h.0.0 h.1.0.0 (λ s t e i. sat _ _ a s t (h.0.1 s e) (h.1.0.1 t i))
    preserve (rule_22 a) h = (h.0.0, λ t e. sat _ _ a t t (h.0.1 t e) (h.1.0.1 t e))
    preserve (rule_23 a) h = (h.0.says.start, λ t e. let w = h.0.says.pairs t e in (sat _ _ a t w.0 w.1).0)
    preserve (rule_24 a) h = (h.0.0, λ t e. (sat _ _ a t t (h.0.1 t e)).0)
    preserve (rule_25 {D} a) h = (h.0.says.end, λ t e. h.0.says.ranges D t (role_tree a stated_range tt) e)
    preserve (rule_26 a) h = (h.0.0, λ t e. (sat _ _ a t t (h.0.1 t e)).1)
    preserve (rule_27 {x} {z} l) h = ((I.individual x, (l, refl)), λ t e. subst (λ u. Describes I z u) (h.0.1 _ h.0.0.1 ∙ sym e.1) (h.1.0.1 _ h.0.0.1))
    preserve (rule_28 l) h = (h.0.0, λ t e. h.1.0.1 t (l, h.0.1 t e))
    preserve (rule_29 {y} {R} {x} l) h = linked_all x R (first.Individual y) h.0.says.start (I.individual y, (l, refl)) (λ s t e i. let w = h.0.says.pairs s e in subst (λ u. InRole I R s u) (h.1.0.1 w.0 w.2 ∙ sym i.1) w.1)

    preserve_follows : {fs : List Fact} {f : Fact} → Follows n k ss fs f → All Means fs → Means f
    preserve_follows (by s) h = preserve s h

pub soundness : Soundness
soundness n k r ss proper f t I sat = means_says k r ss I f (fold (record { leads = λ fs f s h. preserve_follows k r ss I proper.well_formed proper.admissible sat s h }) t)

-- The class of a form-c statement has no member in any satisfying interpretation.
pub clash_refuted : (n k r : ℕ) (ss : List Statement) → Proper n k r ss → (I : Interpretation n) → SatisfiesAll I ss → {p A : ℕ} (u : First) → At ss p (Empty A) → ¬ HasTree n k ss (Instance u (second.Class A))
clash_refuted n k r ss proper I sat {A = A} u a t =
    let h = soundness n k r ss proper (Instance u (second.Class A)) t I sat in
    sat _ _ a h.0.0 (h.1 _ h.0.1)
