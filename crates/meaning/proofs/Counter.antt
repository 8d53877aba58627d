-- The countermodel of a closed set of marks without a clash. Its things are the least individual of each group of equal
-- ones, and two copies of each witness that is marked into its class and equals no individual: thing d below n is the
-- individual d, and n + 2p and n + 2p + 1 are the copies of the witness at p. Two copies, so that a witness that requires
-- a pair to its own kind need not have it to itself.
use Rattle.std.proofs.Common.{◌≡◌, ℕ, zero, suc, ◌+◌, ◌-◌, ◌*◌, ◌/◌, ◌<◌, ◌≤◌, Bool, true, false, cond, not, ◌&&◌, ◌||◌, T, eqb, ltb, ◌≢◌, ◌⊎◌, ◌↔◌, List, [], ◌∷◌, ◌++◌, length, get_or, sym, refl, ap, subst, subst₂, inl, inr, ⊎_elim, arith, length-append}
use native.Mathlib.Decide.{dec_lt, ℕ_discrete}
use Rattle.rules.specs.Statements.{letter_of}
use Rattle.rules.specs.declared.statements.Statement.{Statement}
use Rattle.rules.specs.declared.statements.Statement.TheVariants.{Member, Related, Empty, Universal, Only, Nominal, Subclass, Both, Reaches, Requires, SelfWithin, SelfPaired, Subrole, Chain, RoleBoth, Product, DomainRange}
use Rattle.calculus.specs.Trees.{In, here, there, All, Closed}
use Rattle.calculus.specs.Tests.{Decides}
use Rattle.calculus.specs.Places.{At}
use Rattle.roles.specs.Roles.{IsNonSimple, IsSimple, Told, chain_nonsimple, subrole_nonsimple}
use Rattle.meaning.proofs.RoleSteps.{role_tree}
use Rattle.calculus.specs.Steps.{Step, Follows, by}
use Rattle.calculus.specs.Steps.{rule_1, rule_2, rule_3, rule_5a, rule_5e, rule_5f, rule_5g, rule_6, rule_7, rule_8, rule_9j, rule_9b, rule_10j, rule_11, rule_12, rule_13, rule_14, rule_15, rule_16, rule_17, rule_18, rule_19, rule_20, rule_21, rule_22, rule_23, rule_24, rule_25, rule_26, rule_27, rule_28, rule_29}
use Rattle.calculus.specs.declared.terms.First.{First}
use Rattle.calculus.specs.declared.terms.First.TheVariants as first
use Rattle.calculus.specs.declared.terms.Second.{Second}
use Rattle.calculus.specs.declared.terms.Second.TheVariants as second
use Rattle.calculus.specs.declared.terms.Ground.{Ground}
use Rattle.calculus.specs.declared.terms.Fact.{Fact}
use Rattle.calculus.specs.declared.terms.Fact.TheVariants.{Instance, SelfPair, Pair}
use Rattle.meaning.specs.Interpretations.{Interpretation, Satisfies, AtMost}
use Rattle.meaning.specs.Theorems.{count_j, Countermodels, Proper, Clash}
use Rattle.meaning.proofs.Tests.{is_true, is_false, given, itself, both, either, never, same, below, Least, None, least, none_below, none_decides}
use Rattle.meaning.proofs.Spelling.{field, is_requires}
use Rattle.roles.proofs.Deciding.{roles_told}
use Rattle.roles.specs.declared.facts.RoleFact.TheVariants.{NonSimple}

-- ── a list of the things ──
upto : ℕ → List ℕ
upto zero = []
upto (suc m) = m ∷ upto m

upto_length : (m : ℕ) → length (upto m) ≡ m
unfolding upto
upto_length zero = refl
upto_length (suc m) = ap suc (upto_length m)

upto_in : (d m : ℕ) → d < m → In d (upto m)
unfolding upto
upto_in d zero l = absurd (omega arith)
upto_in d (suc m) l = elim (ℕ_discrete d m) [
  | yes e ↦ subst (λ x. In d (x ∷ upto m)) e here
  | no e ↦ there (upto_in d m (omega arith))
]

copies : ℕ → List Statement → List ℕ
copies q [] = []
copies q (s ∷ ss) = cond (eqb (letter_of s) 106) (q ∷ suc q ∷ copies (q + 2) ss) (copies (q + 2) ss)

copies_length : (q : ℕ) (ss : List Statement) → length (copies q ss) ≡ 2 * count_j ss
unfolding copies
copies_length q [] = refl
copies_length q (s ∷ ss) =
    let h = copies_length (q + 2) ss in
    elim (eqb (letter_of s) 106) as (λ b. length (cond b (q ∷ suc q ∷ copies (q + 2) ss) (copies (q + 2) ss)) ≡ 2 * cond b (1 + count_j ss) (count_j ss)) [ true ↦ omega arith | false ↦ h ]

-- d is a copy of the witness at p, where copies are numbered from q.
abbrev Copy : ℕ → ℕ → ℕ → Type 0
Copy q p d = (d ≡ q + 2 * p) ⊎ (d ≡ q + 2 * p + 1)

copies_in : (d q p : ℕ) (ss : List Statement) {A V B : ℕ} → At ss p (Requires A V B) → Copy q p d → In d (copies q ss)
unfolding copies
copies_in d q p [] a c = absurd (omega (arith, a.low))
copies_in d q zero (t ∷ ss) a c = rw (ap (λ x. eqb (letter_of x) 106) a.is) (elim (ℕ_discrete d q) [
  | yes i ↦ subst (λ x. In d (x ∷ suc q ∷ copies (q + 2) ss)) i here
  | no i ↦ let j : d ≡ suc q = omega arith in there (subst (λ x. In d (x ∷ copies (q + 2) ss)) j here)
])
copies_in d q (suc p) (t ∷ ss) a c =
    let h : In d (copies (q + 2) ss) = copies_in d (q + 2) p ss (record { low = omega (arith, a.low); is = a.is }) (elim c [ inl i ↦ inl (omega arith) | inr i ↦ inr (omega arith) ]) in
    elim (eqb (letter_of t) 106) as (λ b. In d (cond b (q ∷ suc q ∷ copies (q + 2) ss) (copies (q + 2) ss))) [ true ↦ there (there h) | false ↦ h ]

in_left : {d : ℕ} {l : List ℕ} (m : List ℕ) → In d l → In d (l ++ m)
in_left m here = here
in_left m (there i) = there (in_left m i)

in_right : {d : ℕ} (l : List ℕ) {m : List ℕ} → In d m → In d (l ++ m)
in_right [] i = i
in_right (x ∷ l) i = there (in_right l i)

module _ (n : ℕ) (ss : List Statement) (told : Told ss) (marked : Fact → Bool) where
  -- Whether a role is non-simple.
  nonsimple : ℕ → Bool
  nonsimple R = told.test (NonSimple R)

  nonsimple_decides : (R : ℕ) → Decides (nonsimple R) (IsNonSimple ss R)
  unfolding nonsimple
  nonsimple_decides R = given (nonsimple R) (told.tells (NonSimple R))

  abbrev Marked : Fact → Type 0
  Marked f = T (marked f)

  abbrev equals : First → ℕ → Bool
  equals c x = marked (Instance c (second.Individual x))

  abbrev standing : ℕ → Statement
  standing p = get_or ss p (Member 0 0)

  -- The first term of a thing.
  term : ℕ → First
  term d = cond (ltb d n) (first.Individual d) (first.Witness ((d - n) / 2))

  -- The witness at p is one, and is marked into its class.
  live : ℕ → Bool
  live p = (ltb p (length ss) && eqb (letter_of (standing p)) 106) && marked (Instance (first.Witness p) (second.Class (field (standing p) 2)))

  thing_of : First → Bool
  thing_of (first.Individual x) = ltb x n && none_below (equals (first.Individual x)) x
  thing_of (first.Witness p) = live p && none_below (equals (first.Witness p)) n

  thing : ℕ → Bool
  thing d = thing_of (term d)

  class : ℕ → ℕ → Bool
  class C d = thing d && marked (Instance (term d) (second.Class C))

  role : ℕ → ℕ → ℕ → Bool
  role R d e = (thing d && thing e) && ((marked (Pair (term d) R (term e)) && (nonsimple R || not (eqb d e))) || (eqb d e && marked (SelfPair (term d) R)))

  -- The individual that stands for x.
  least_equal : ℕ → ℕ
  least_equal x = ⊎_elim (λ h. h.0) (λ h. 0) (least (equals (first.Individual x)) n)

  -- Why a pair is in a role.
  data Held (R : ℕ) : ℕ → ℕ → Type 0 where
    linked : {d e : ℕ} → Marked (Pair (term d) R (term e)) → T (nonsimple R) ⊎ (d ≢ e) → Held R d e
    looped : {d : ℕ} → Marked (SelfPair (term d) R) → Held R d d

  class_decides : (C d : ℕ) → Decides (class C d) (T (thing d) × Marked (Instance (term d) (second.Class C)))
  unfolding class
  class_decides C d = both (itself _) (itself _)

  role_decides : (R d e : ℕ) → Decides (role R d e) ((T (thing d) × T (thing e)) × ((Marked (Pair (term d) R (term e)) × (T (nonsimple R) ⊎ (d ≢ e))) ⊎ ((d ≡ e) × Marked (SelfPair (term d) R))))
  unfolding role
  role_decides R d e = both (both (itself _) (itself _)) (either (both (itself _) (either (itself _) (never (same d e)))) (both (same d e) (itself _)))

  role_out : (R d e : ℕ) → T (role R d e) → Held R d e
  role_out R d e h = ⊎_elim (λ g. linked g.0 g.1) (λ g. subst (λ x. Held R d x) g.0 (looped g.1)) ((role_decides R d e).out h).1

  role_things : (R d e : ℕ) → T (role R d e) → T (thing d) × T (thing e)
  role_things R d e h = ((role_decides R d e).out h).0

  role_linked : (R d e : ℕ) → T (thing d) → T (thing e) → Marked (Pair (term d) R (term e)) → T (nonsimple R) ⊎ (d ≢ e) → T (role R d e)
  role_linked R d e f g h i = (role_decides R d e).back ((f, g), inl (h, i))

  role_looped : (R d : ℕ) → T (thing d) → Marked (SelfPair (term d) R) → T (role R d d)
  role_looped R d f h = (role_decides R d d).back ((f, f), inr (refl, h))

  simple_self : {R d e : ℕ} → IsSimple ss R → Held R d e → d ≡ e → Marked (SelfPair (term d) R)
  simple_self {R} m (linked h (inl g)) e = absurd (m ((nonsimple_decides R).out g))
  simple_self m (linked h (inr g)) e = absurd (g e)
  simple_self m (looped h) e = h

  apart_pair : {R d e : ℕ} → Held R d e → d ≢ e → Marked (Pair (term d) R (term e))
  apart_pair (linked h g) m = h
  apart_pair (looped h) m = absurd (m refl)

  term_individual : (d : ℕ) → d < n → term d ≡ first.Individual d
  unfolding term
  term_individual d l = rw (is_true (ltb d n) ((below d n).back l))

  term_witness : (d p : ℕ) → Copy n p d → term d ≡ first.Witness p
  unfolding term
  term_witness d p h =
      let e : (d - n) / 2 ≡ p = omega arith in
      rw (is_false (ltb d n) (λ t. let l : d < n = (below d n).out t in omega arith), e)

  -- ── what a thing is ──
  record IndividualThing (d : ℕ) : Type 0 where
    low : d < n
    is : term d ≡ first.Individual d
    first_equal : None (equals (first.Individual d)) d

  record WitnessThing (d : ℕ) : Type 0 where
    p : ℕ
    A : ℕ
    V : ℕ
    B : ℕ
    copy : Copy n p d
    is : term d ≡ first.Witness p
    at : At ss p (Requires A V B)
    lives : Marked (Instance (first.Witness p) (second.Class B))
    unequal : None (equals (first.Witness p)) n

  live_decides : (p : ℕ) → Decides (live p) (((p < length ss) × (letter_of (standing p) ≡ 106)) × Marked (Instance (first.Witness p) (second.Class (field (standing p) 2))))
  unfolding live
  live_decides p = both (both (below _ _) (same _ _)) (itself _)

  the_copy : (d : ℕ) → n ≤ d → Copy n ((d - n) / 2) d
  the_copy d l = elim (ℕ_discrete d (n + 2 * ((d - n) / 2))) [ yes e ↦ inl e | no e ↦ inr (omega arith) ]

  view_individual : (d : ℕ) → d < n → T (thing d) → IndividualThing d
  unfolding thing thing_of
  view_individual d l h =
      let e = term_individual d l in
      record { low = l; is = e; first_equal = ((both (below d n) (none_decides (equals (first.Individual d)) d)).out (rw e at h)).1 }

  view_witness : (d : ℕ) → n ≤ d → T (thing d) → WitnessThing d
  unfolding thing thing_of
  view_witness d l h =
      let q = (d - n) / 2 in
      let e = term_witness d q (the_copy d l) in
      let g = (both (live_decides q) (none_decides (equals (first.Witness q)) n)).out (rw e at h) in
      record {
        p = q;
        A = field (standing q) 0;
        V = field (standing q) 1;
        B = field (standing q) 2;
        copy = the_copy d l;
        is = e;
        at = record { low = g.0.0.0; is = is_requires (standing q) g.0.0.1 };
        lives = g.0.1;
        unequal = g.1;
      }

  view : (d : ℕ) → T (thing d) → IndividualThing d ⊎ WitnessThing d
  view d h = elim (dec_lt d n) [ yes l ↦ inl (view_individual d l h) | no l ↦ inr (view_witness d (omega arith) h) ]

  individual_thing : (d : ℕ) → d < n → None (equals (first.Individual d)) d → T (thing d)
  unfolding thing thing_of
  individual_thing d l h = rw (term_individual d l) ((both (below d n) (none_decides (equals (first.Individual d)) d)).back (l, h))

  witness_thing : (d p : ℕ) {A V B : ℕ} → Copy n p d → At ss p (Requires A V B) → Marked (Instance (first.Witness p) (second.Class B)) → None (equals (first.Witness p)) n → T (thing d)
  unfolding thing thing_of
  witness_thing d p c a m h =
      let lives = subst (λ s. (letter_of s ≡ 106) × Marked (Instance (first.Witness p) (second.Class (field s 2)))) (sym a.is) (refl, m) in
      rw (term_witness d p c) ((both (live_decides p) (none_decides (equals (first.Witness p)) n)).back (((a.low, lives.0), lives.1), h))

  record LeastEqual (x y : ℕ) : Type 0 where
    low : y < n
    is : Marked (Instance (first.Individual x) (second.Individual y))
    first_equal : None (equals (first.Individual x)) y

  module _ (k r : ℕ) (proper : Proper n k r ss) (closed : Closed (Follows n k ss) (λ f. T (marked f))) (clashless : ¬ Clash ss marked) where
    close : {why : Ground} {fs : List Fact} {f : Fact} → Step n k ss why fs f → All (λ g. T (marked g)) fs → Marked f
    close s h = closed.leads _ _ (by s) h

    its_own : (x : ℕ) → x < n → Marked (Instance (first.Individual x) (second.Individual x))
    its_own x l = close (rule_1 l) tt

    least_go : (x : ℕ) → x < n → (o : Least (equals (first.Individual x)) n ⊎ None (equals (first.Individual x)) n) → LeastEqual x (⊎_elim (λ h. h.0) (λ h. 0) o)
    least_go x l (inl h) = record { low = h.1; is = h.2; first_equal = h.3 }
    least_go x l (inr h) = absurd (h x l (its_own x l))

    least_is : (x : ℕ) → x < n → LeastEqual x (least_equal x)
    unfolding least_equal
    least_is x l = least_go x l (least (equals (first.Individual x)) n)

    least_thing : (x : ℕ) → x < n → T (thing (least_equal x))
    least_thing x l = let h = least_is x l in individual_thing (least_equal x) h.low (λ b g m. h.first_equal b g (close (rule_28 h.low) (h.is, (m, tt))))

    least_term : (x : ℕ) → x < n → term (least_equal x) ≡ first.Individual (least_equal x)
    least_term x l = term_individual (least_equal x) (least_is x l).low

    least_in : (x C : ℕ) → x < n → T (class C (least_equal x)) ↔ Marked (Instance (first.Individual x) (second.Class C))
    least_in x C l =
        let h = least_is x l in (
          λ g. close (rule_28 h.low) (h.is, (rw (least_term x l) at ((class_decides C (least_equal x)).out g).1, tt)),
          λ g. (class_decides C (least_equal x)).back (least_thing x l, rw (least_term x l) (close (rule_27 h.low) (h.is, (g, tt)))),
        )

    -- A marked pair to an individual that is a thing.
    join : (R d y : ℕ) → T (thing d) → T (thing y) → y < n → Marked (Pair (term d) R (first.Individual y)) → T (role R d y)
    join R d y f g l h = elim (ℕ_discrete d y) [
      | yes e ↦
          let m : d < n = omega arith in
          let i = term_individual d m in
          subst (λ v. T (role R d v)) e (role_looped R d f (rw i (close (rule_2 m) (subst₂ (λ c v. Marked (Pair c R (first.Individual v))) i (sym e) h, tt))))
      | no e ↦ role_linked R d y f g (rw (term_individual y l) h) (inr e)
    ]

    some_instance : (d : ℕ) → T (thing d) → (z : Second) × Marked (Instance (term d) z)
    some_instance d h = elim (view d h) [
      | inl v ↦ (second.Individual d, rw v.is (its_own d v.low))
      | inr v ↦ (second.Class v.B, rw v.is v.lives)
    ]

    only : (d x : ℕ) → T (thing d) → x < n → Marked (Instance (term d) (second.Individual x)) → d ≡ least_equal x
    only d x h l m =
        let r = least_is x l in
        elim (view d h) [
          | inl v ↦
              let g : Marked (Instance (first.Individual d) (second.Individual x)) = rw v.is at m in
              let up : ¬ (least_equal x < d) = λ u. v.first_equal (least_equal x) u (close (rule_28 l) (g, (r.is, tt))) in
              let down : ¬ (d < least_equal x) = λ u. r.first_equal d u (close (rule_27 l) (g, (its_own d v.low, tt))) in
              omega arith
          | inr v ↦ absurd (v.unequal x l (rw v.is at m))
        ]

    reach : {p R A C s t : ℕ} → At ss p (Reaches R A C) → Held R s t → Marked (Instance (term t) (second.Class A)) → Marked (Instance (term s) (second.Class C))
    reach a (linked h g) m = close (rule_7 a) (h, (m, tt))
    reach a (looped h) m = close (rule_8 a) (h, (m, tt))

    subrole : {p R Q s t : ℕ} → At ss p (Subrole R Q) → T (thing s) → T (thing t) → Held R s t → T (role Q s t)
    subrole {R} {Q} {s} {t} a f g (linked h (inl m)) = role_linked Q s t f g (close (rule_13 a) (h, tt)) (inl ((nonsimple_decides Q).back (role_tree a subrole_nonsimple ((nonsimple_decides R).out m, tt))))
    subrole {Q} {s} {t} a f g (linked h (inr m)) = role_linked Q s t f g (close (rule_13 a) (h, tt)) (inr m)
    subrole {Q} {s} a f g (looped h) = role_looped Q s f (close (rule_14 a) (h, tt))

    chained : {p R S Q s t u : ℕ} → At ss p (Chain R S Q) → Held R s t → Held S t u → Marked (Pair (term s) Q (term u))
    chained a (linked h e) (linked g f) = close (rule_15 a) (h, (g, tt))
    chained a (linked h e) (looped g) = close (rule_17 a) (h, (g, tt))
    chained a (looped h) (linked g f) = close (rule_16 a) (h, (g, tt))
    chained a (looped h) (looped g) = close (rule_18 a) (h, (g, tt))

    bounded : {p R C D s t : ℕ} → At ss p (DomainRange R C D) → Held R s t → Marked (Instance (term s) (second.Class C)) × Marked (Instance (term t) (second.Class D))
    bounded a (linked h e) = (close (rule_23 a) (h, tt), close (rule_25 a) (h, tt))
    bounded a (looped h) = (close (rule_24 a) (h, tt), close (rule_26 a) (h, tt))

    -- The pair that a form-j statement asks for: to a copy of its witness, or to the individual that the witness equals.
    to_copy : {p A V B : ℕ} (s d : ℕ) → At ss p (Requires A V B) → T (class A s) → None (equals (first.Witness p)) n → Copy n p d → s ≢ d → (t : ℕ) × T (role V s t) × T (class B t)
    to_copy {p} {A} {V} {B} s d a h lone c ne =
        let g = (class_decides A s).out h in
        let i : Marked (Instance (first.Witness p) (second.Class B)) = close (rule_10j a) (g.1, tt) in
        let e = term_witness d p c in
        let td = witness_thing d p c a i lone in
        (d, role_linked V s d g.0 td (rw e (close (rule_9j a) (g.1, tt))) (inr ne), (class_decides B d).back (td, rw e i))

    to_individual : {p A V B : ℕ} (s : ℕ) → At ss p (Requires A V B) → T (class A s) → Least (equals (first.Witness p)) n → (t : ℕ) × T (role V s t) × T (class B t)
    to_individual {p} {A} {V} {B} s a h b =
        let g = (class_decides A s).out h in
        let l = b.1 in
        let td = individual_thing b.0 l (λ c i m. b.3 c i (close (rule_28 l) (b.2, (m, tt)))) in (
          b.0,
          join V s b.0 g.0 td l (close (rule_29 l) (close (rule_9j a) (g.1, tt), (b.2, tt))),
          (class_decides B b.0).back (td, rw (term_individual b.0 l) (close (rule_27 l) (b.2, (close (rule_10j a) (g.1, tt), tt)))),
        )

    abbrev model : Interpretation n
    model = record {
      thing = thing;
      individual = least_equal;
      class = class;
      role = role;
      some_thing = (least_equal 0, least_thing 0 proper.some_individual);
      individual_thing = least_thing;
      class_things = λ C d h. ((class_decides C d).out h).0;
      role_things = role_things;
    }

    satisfied : (p : ℕ) (s : Statement) → At ss p s → Satisfies model s
    satisfied p (Member x C) a = let l = (proper.well_formed _ _ a).0 in (least_in x C l).1 (close (rule_5a a) (its_own x l, tt))
    satisfied p (Related x R y) a =
        let l = (proper.well_formed _ _ a).0 in
        let m = (proper.well_formed _ _ a).2 in
        let u = least_is x l in
        let v = least_is y m in
        join R (least_equal x) (least_equal y) (least_thing x l) (least_thing y m) v.low (rw (least_term x l) (close (rule_29 v.low) (close (rule_9b a) (close (rule_27 u.low) (u.is, (its_own x l, tt)), tt), (v.is, tt))))
    satisfied p (Empty A) a = λ d h. clashless (record { place = p; class = A; member = term d; empty = a; found = ((class_decides A d).out h).1 })
    satisfied p (Universal C) a = λ d h. (class_decides C d).back (h, close (rule_3 a) ((some_instance d h).1, tt))
    satisfied p (Only A x) a = λ d h. let g = (class_decides A d).out h in only d x g.0 (proper.well_formed _ _ a).1 (close (rule_5e a) (g.1, tt))
    satisfied p (Nominal x C) a = let l = (proper.well_formed _ _ a).0 in (least_in x C l).1 (close (rule_5f a) (its_own x l, tt))
    satisfied p (Subclass A C) a = λ d h. let g = (class_decides A d).out h in (class_decides C d).back (g.0, close (rule_5g a) (g.1, tt))
    satisfied p (Both A B C) a = λ d h i. let g = (class_decides A d).out h in (class_decides C d).back (g.0, close (rule_6 a) (g.1, (((class_decides B d).out i).1, tt)))
    satisfied p (Reaches R A C) a = λ s t h i. (class_decides C s).back ((role_things R s t h).0, reach a (role_out R s t h) ((class_decides A t).out i).1)
    satisfied p (Requires A V B) a = λ s h. elim (least (equals (first.Witness p)) n) [
      | inl b ↦ to_individual s a h b
      | inr b ↦ elim (ℕ_discrete s (n + 2 * p)) [
        | yes e ↦ to_copy s (n + 2 * p + 1) a h b (inr refl) (omega arith)
        | no e ↦ to_copy s (n + 2 * p) a h b (inl refl) e
      ]
    ]
    satisfied p (SelfWithin R C) a = λ s h. (class_decides C s).back ((role_things R s s h).0, close (rule_11 a) (simple_self (proper.admissible _ _ a) (role_out R s s h) refl, tt))
    satisfied p (SelfPaired A R) a = λ s h. let g = (class_decides A s).out h in role_looped R s g.0 (close (rule_12 a) (g.1, tt))
    satisfied p (Subrole R Q) a = λ s t h. let g = role_things R s t h in subrole a g.0 g.1 (role_out R s t h)
    satisfied p (Chain R S Q) a = λ s t u h g. role_linked Q s u (role_things R s t h).0 (role_things S t u g).1 (chained a (role_out R s t h) (role_out S t u g)) (inl ((nonsimple_decides Q).back (role_tree a chain_nonsimple tt)))
    satisfied p (RoleBoth R S Q) a = λ s t h g.
        let u = role_out R s t h in
        let v = role_out S s t g in
        let w = role_things R s t h in
        let simple = proper.admissible _ _ a in
        elim (ℕ_discrete s t) [
          | yes e ↦ subst (λ x. T (role Q s x)) e (role_looped Q s w.0 (close (rule_20 a) (simple_self simple.0 u e, (simple_self simple.1 v e, tt))))
          | no e ↦ role_linked Q s t w.0 w.1 (close (rule_19 a) (apart_pair u e, (apart_pair v e, tt))) (inr e)
        ]
    satisfied p (Product A B R) a = λ s t h i.
        let g = (class_decides A s).out h in
        let f = (class_decides B t).out i in
        elim (ℕ_discrete s t) [
          | yes e ↦ subst (λ x. T (role R s x)) e (role_looped R s g.0 (close (rule_22 a) (g.1, (subst (λ x. Marked (Instance (term x) (second.Class B))) (sym e) f.1, tt))))
          | no e ↦ role_linked R s t g.0 f.0 (close (rule_21 a) (g.1, (f.1, tt))) (inr e)
        ]
    satisfied p (DomainRange R C D) a = λ s t h.
        let g = role_things R s t h in
        let b = bounded a (role_out R s t h) in
        ((class_decides C s).back (g.0, b.0), (class_decides D t).back (g.1, b.1))

    small : AtMost model (n + 2 * count_j ss)
    small = record {
      listed = upto n ++ copies n ss;
      few = let e = length-append (upto n) (copies n ss) in let f = upto_length n in let g = copies_length n ss in omega arith;
      every = λ d h. elim (view d h) [
        | inl v ↦ in_left (copies n ss) (upto_in d n v.low)
        | inr v ↦ in_right (upto n) (copies_in d n v.p ss v.at v.copy)
      ];
    }

pub countermodels : Countermodels
countermodels n k r ss proper marked closed clashless =
    let told = roles_told n k r ss proper.well_formed in
    record {
      in_model = record {
        model = model n ss told marked k r proper closed clashless;
        satisfied = satisfied n ss told marked k r proper closed clashless;
        small = small n ss told marked k r proper closed clashless;
      };
      exact = least_in n ss told marked k r proper closed clashless;
    }
