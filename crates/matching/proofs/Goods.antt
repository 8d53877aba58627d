-- Good entries: their facts have proof trees, and no entries have two rows of facts.
use Rattle.std.proofs.Common.{◌≡◌, ℕ, ◌+◌, ◌≤◌, ◌⊎◌, List, [], ◌∷◌, ◌++◌, length, sym, refl, ◌∙◌, subst, inl, inr, arith, length-append}
use Rattle.rules.specs.Limits.{most_statements}
use Rattle.rules.specs.Formed.{AllWellFormed, all_formed}
use Rattle.rules.specs.declared.base.RuleBase.{RuleBase}
use Rattle.rules.specs.declared.statements.Statement.{Statement}
use Rattle.marks.specs.Trees.{In, here, there}
use Rattle.calculus.specs.Trees.{all_more, pick, node}
use Rattle.calculus.specs.Steps.{by, HasTree}
use Rattle.calculus.specs.Numbers.{Inside}
use Rattle.calculus.proofs.Contained.{trees_inside}
use Rattle.calculus.specs.declared.terms.Fact.{Fact}
use Rattle.recovery.specs.Begun.{entry_bytes}
use Rattle.recovery.specs.EntryCuts.{EntryFits}
use Rattle.recovery.specs.declared.entry.Entry.{Entry}
use Rattle.recovery.proofs.Cutting.{entry_same}
use Rattle.matching.specs.Complete.{entry_of, Good, AllGood, none, more}
use Rattle.matching.specs.Entries.{Tells}
use Rattle.matching.proofs.Shorts.{given_fits}
use Rattle.matching.proofs.Told.{told_once}

-- ── in a row with one more ──
pub in_front : {X : Type 0} {x : X} {xs : List X} (ys : List X) → In x xs → In x (xs ++ ys)
in_front ys here = here
in_front ys (there i) = there (in_front ys i)

pub in_last : {X : Type 0} (xs : List X) (x : X) → In x (xs ++ (x ∷ []))
in_last [] x = here
in_last (y ∷ xs) x = there (in_last xs x)

in_one : {X : Type 0} {x y : X} → In x (y ∷ []) → x ≡ y
in_one here = refl
in_one (there i) = elim i [ ]

pub in_either : {X : Type 0} (xs : List X) {x y : X} → In x (xs ++ (y ∷ [])) → In x xs ⊎ (x ≡ y)
in_either [] i = inr (in_one i)
in_either (z ∷ xs) here = inl here
in_either (z ∷ xs) (there i) = elim (in_either xs i) [ inl j ↦ inl (there j) | inr e ↦ inr e ]

-- ── a book within its limits ──
pub record Fine (n k r : ℕ) (ss : List Statement) : Type 0 where
  pub individuals : n ≤ 128
  pub classes : k ≤ 256
  pub roles : r ≤ 32
  pub few : length ss ≤ most_statements
  pub formed : AllWellFormed n k r ss

-- The facts of a row have proof trees.
abbrev pub Treed : (n k : ℕ) → List Statement → List Fact → Type 0
Treed n k ss fs = (f : Fact) → In f fs → HasTree n k ss f

pub treed_none : (n k : ℕ) (ss : List Statement) → Treed n k ss []
treed_none n k ss f i = elim i [ ]

pub base_fine : (b : RuleBase) → Fine b.counts.individuals b.counts.classes b.counts.roles b.statements.now
base_fine b = record {
  individuals = b.counts.few_individuals;
  classes = b.counts.few_classes;
  roles = b.counts.few_roles;
  few = omega (arith, b.counted, b.counts.few_statements);
  formed = all_formed b.counts.individuals b.counts.classes b.counts.roles b.statements.now b.formed;
}

module _ (n k r : ℕ) (ss : List Statement) (fine : Fine n k r ss) where
  pub tree_inside : (f : Fact) → HasTree n k ss f → Inside n k r f
  tree_inside f t = trees_inside n k r ss fine.formed fine.few f t

  pub good_tree : {earlier : List Fact} {e : List ℕ} {f : Fact} → Treed n k ss earlier → Good n k ss earlier e f → HasTree n k ss f
  good_tree {earlier} t g = node (by g.gives.step) (λ h i. t h (pick (λ x. In x earlier) g.gives.given i))

  pub treed_more : (earlier : List Fact) (f : Fact) → Treed n k ss earlier → HasTree n k ss f → Treed n k ss (earlier ++ (f ∷ []))
  treed_more earlier f t h x i = elim (in_either earlier i) [ inl j ↦ t x j | inr e ↦ subst (HasTree n k ss) (sym e) h ]

  pub all_treed : {earlier : List Fact} {es : List (List ℕ)} {facts : List Fact} → AllGood n k ss earlier es facts → Treed n k ss earlier → Treed n k ss facts
  all_treed none t = t
  all_treed (more {earlier = earlier} {f = f} g rest) t = all_treed rest (treed_more earlier f t (good_tree t g))

  pub one_more : {earlier : List Fact} {es : List (List ℕ)} {facts : List Fact} {e : List ℕ} {f : Fact} → AllGood n k ss earlier es facts → Good n k ss facts e f → AllGood n k ss earlier (es ++ (e ∷ [])) (facts ++ (f ∷ []))
  one_more none g = more g none
  one_more (more h rest) g = more h (one_more rest g)

  -- ── a good entry by its bytes ──
  good_fits : {earlier : List Fact} {e : List ℕ} {f : Fact} → Treed n k ss earlier → (g : Good n k ss earlier e f) → EntryFits (entry_of n f g.ground)
  good_fits {earlier} {f = f} t g =
      given_fits n k r ss fine.individuals fine.classes fine.roles fine.few fine.formed f g.ground
      (record { premises = g.gives.premises; step = g.gives.step; given = all_more (λ x. In x earlier) (Inside n k r) (λ x i. tree_inside x (t x i)) g.gives.premises g.gives.given })

  pub good_tells : {earlier : List Fact} {f : Fact} (d : Entry) → EntryFits d → Treed n k ss earlier → (g : Good n k ss earlier (entry_bytes d) f) → Tells n k r d f g.ground
  good_tells {f = f} d fits t g = record { inside = tree_inside f (good_tree t g); is = entry_same d (entry_of n f g.ground) fits (good_fits t g) g.tells }

  good_one : {earlier : List Fact} {e : List ℕ} {f h : Fact} → Treed n k ss earlier → Good n k ss earlier e f → Good n k ss earlier e h → f ≡ h
  good_one {e = e} {f = f} {h = h} t p q =
      let a : Tells n k r (entry_of n f p.ground) f p.ground = record { inside = tree_inside f (good_tree t p); is = refl } in
      let b : Tells n k r (entry_of n f p.ground) h q.ground = record { inside = tree_inside h (good_tree t q); is = entry_same _ _ (good_fits t p) (good_fits t q) (sym p.tells ∙ q.tells) } in
      (told_once n k r (entry_of n f p.ground) f h p.ground q.ground a b).0

  pub all_one : {earlier : List Fact} (es : List (List ℕ)) {fs gs : List Fact} → AllGood n k ss earlier es fs → AllGood n k ss earlier es gs → Treed n k ss earlier → fs ≡ gs
  all_one [] none none t = refl
  all_one (e ∷ es) {gs = gs} (more {earlier = earlier} {f = f} p rest) (more {f = h} q others) t =
      let s : h ≡ f = sym (good_one t p q) in
      all_one es rest (subst (λ (x : Fact). AllGood n k ss (earlier ++ (x ∷ [])) es gs) s others) (treed_more earlier f t (good_tree t p))

  -- ── a row of good entries, cut ──
  pub record Cut (earlier : List Fact) (front : List (List ℕ)) (e : List ℕ) : Type 0 where
    pub facts : List Fact
    pub fact : Fact
    pub good : AllGood n k ss earlier front facts
    pub next : Good n k ss facts e fact

  pub cut_at : (front : List (List ℕ)) (e : List ℕ) (rest : List (List ℕ)) {earlier facts : List Fact} → AllGood n k ss earlier (front ++ (e ∷ rest)) facts → Cut earlier front e
  cut_at [] e rest (more {earlier = earlier} {f = f} g others) = record { facts = earlier; fact = f; good = none; next = g }
  cut_at (x ∷ front) e rest (more g others) = let c = cut_at front e rest others in record { facts = c.facts; fact = c.fact; good = more g c.good; next = c.next }

  pub all_long : {earlier : List Fact} {es : List (List ℕ)} {facts : List Fact} → AllGood n k ss earlier es facts → length facts ≡ length earlier + length es
  all_long {earlier} none = omega arith
  all_long (more {earlier = earlier} {es = es} {f = f} {fs = fs} g rest) = omega (arith, all_long rest, length-append earlier (f ∷ []))
