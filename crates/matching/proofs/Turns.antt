-- One entry more, and what stands where the entries end.
use Rattle.std.proofs.Common.{◌≡◌, ℕ, ◌+◌, ◌<◌, ◌≤◌, Bool, true, false, List, [], ◌∷◌, ◌++◌, length, Ok, Err, Result, sym, refl, ap, ◌∙◌, subst, append_assoc, arith, length-append}
use borrow.Author.Tests.{both_ways}
use Rattle.std.proofs.lemmas.List.{append-nil}
use Rattle.rules.specs.declared.base.RuleBase.{RuleBase}
use Rattle.rules.specs.declared.refusals.Refusal.{Refusal}
use Rattle.rules.specs.declared.statements.Statement.{Statement}
use Rattle.marks.specs.Sets.{Member, tally, joined}
use Rattle.marks.specs.SetLaws.{tally_joined, tally_none}
use Rattle.marks.specs.Trees.{Tree, Closed, Missing}
use Rattle.marks.proofs.Folds.{all_map, fold, trees_closed}
use Rattle.calculus.specs.Numbers.{fact_number, fact_limit}
use Rattle.calculus.proofs.Numbered.{low}
use Rattle.calculus.specs.declared.terms.Fact.{Fact}
use Rattle.reasoner.specs.Theorems.{NumberSteps}
use Rattle.reasoner.proofs.Trees.{trees_numbered}
use Rattle.recovery.specs.Begun.{entry_bytes}
use Rattle.recovery.specs.Entries.{Comes, Gone, at_bad, at_full, past_good, at_lack, at_end}
use Rattle.recovery.specs.declared.entry.Entry.{Entry}
use Rattle.recovery.specs.declared.entries.Verdict.{Verdict}
use Rattle.recovery.specs.declared.entries.Verdict.TheVariants.{Yes, No}
use Rattle.matching.specs.Complete.{Good, AllGood, none}
use Rattle.matching.specs.Going.{GoodNumber, BadByHeld, GoodHere, KeptHere, Lacking, Stays}
use Rattle.matching.specs.Matched.{HoldsExactly, Entered, Next, too_small, WentOver, bad_entry, no_room, fact_missing, all_there}
use Rattle.matching.proofs.Goods.{Fine, Treed, base_fine, treed_none, tree_inside, all_treed, one_more}
use Rattle.matching.proofs.Holding.{holds_none, holds_more, held_in, in_held, tree_of_held, good_from, good_back}

-- ── on the way: the entries in front are good, and the store holds their facts ──
record Going (n k r : ℕ) (ss : List Statement) (es : List (List ℕ)) (F : ℕ) (held : ℕ → Bool) (left : List (List ℕ)) (place : ℕ) : Type 0 where
  front : List (List ℕ)
  facts : List Fact
  split : es ≡ front ++ left
  at : place ≡ length front + 1
  good : AllGood n k ss [] front facts
  exact : HoldsExactly n k r held facts
  many : tally held F ≡ length facts

going_none : (n k r : ℕ) (ss : List Statement) (es : List (List ℕ)) (F : ℕ) (held : ℕ → Bool) → ((x : ℕ) → held x ≡ false) → Going n k r ss es F held es 1
going_none n k r ss es F held e = record { front = []; facts = []; split = refl; at = refl; good = none; exact = holds_none n k r held e; many = tally_none held F (λ x l. e x) }

module _ (n k r : ℕ) (ss : List Statement) (fine : Fine n k r ss) (es : List (List ℕ)) (F : ℕ) (held : ℕ → Bool) (left : List (List ℕ)) (place : ℕ) (w : Going n k r ss es F held left place) where
  treed : Treed n k ss w.facts
  treed = all_treed n k r ss fine w.good (treed_none n k ss)

  -- a good entry comes next
  module _ (e : Entry) (rest : List (List ℕ)) (comes : Comes left e rest) (number : ℕ) (g : GoodNumber n k r ss held e number) (wide : fact_limit n k r ≤ F) where
    next_good : Good n k ss w.facts (entry_bytes e) g.fact
    next_good = good_from n k r ss fine held w.facts w.exact treed e g.fact g.good

    going_more : (after-it : ℕ → Bool) → ((x : ℕ) → after-it x ≡ joined held number x) → Going n k r ss es F after-it rest (place + 1)
    going_more after-it added =
        let f = g.fact in
        let below : number < F = let l = low n k r f g.good.tells.inside in omega (arith, g.numbered) in record {
          front = w.front ++ (entry_bytes e ∷ []);
          facts = w.facts ++ (f ∷ []);
          split = w.split ∙ ap (λ v. w.front ++ v) comes.is ∙ sym (append_assoc w.front (entry_bytes e ∷ []) rest);
          at = omega (arith, w.at, length-append w.front (entry_bytes e ∷ []));
          good = one_more n k r ss fine w.good next_good;
          exact = holds_more n k r held after-it w.facts f w.exact (λ x. added x ∙ ap (λ m. joined held m x) g.numbered);
          many = let t = tally_joined held after-it F number below (ap held g.numbered ∙ g.good.new) added in omega (arith, w.many, length-append w.facts (f ∷ []));
        }

  -- the store takes P numbers
  module _ (P : ℕ) (room : tally held F ≤ P) where
    entered : (after-it : ℕ → Bool) → ((x : ℕ) → after-it x ≡ held x) → Entered n k r ss P after-it w.front w.facts
    entered after-it same = record { good = w.good; room = omega (arith, w.many); held = λ x. (λ h. (w.exact x).0 (sym (same x) ∙ h), λ i. same x ∙ (w.exact x).1 i) }

    next : (e : Entry) (rest : List (List ℕ)) → Comes left e rest → Next es w.front (entry_bytes e)
    next e rest comes = record { rest = rest; is = w.split ∙ ap (λ v. w.front ++ v) comes.is }

    -- a good entry comes next, and there is no room
    ends_full : (e : Entry) (rest : List (List ℕ)) → Comes left e rest → (number : ℕ) → GoodNumber n k r ss held e number → fact_limit n k r ≤ F → P ≤ tally held F →
        (after-it : ℕ → Bool) → ((x : ℕ) → after-it x ≡ held x) → WentOver n k r ss es P after-it (Err too_small)
    ends_full e rest comes number g wide full after-it same =
        no_room {e = entry_bytes e} (entered after-it same) (next e rest comes) (next_good e rest comes number g wide) (omega (arith, w.many))

    -- a bad entry comes next
    ends_bad : (e : Entry) (rest : List (List ℕ)) → Comes left e rest → BadByHeld n k r ss held e →
        (after-it : ℕ → Bool) → ((x : ℕ) → after-it x ≡ held x) → WentOver n k r ss es P after-it (Ok (No place))
    ends_bad e rest comes bad after-it same =
        bad_entry {e = entry_bytes e} (entered after-it same) (next e rest comes)
        (λ f g. bad f (good_back n k r ss fine held w.facts w.exact treed e f comes.fits g)) w.at

    -- no entry comes next
    module _ (is : left ≡ []) where
      all_read : es ≡ w.front
      all_read = w.split ∙ ap (λ v. w.front ++ v) is ∙ append-nil w.front

      all_entered : Entered n k r ss P held es w.facts
      all_entered = subst (λ (v : List (List ℕ)). Entered n k r ss P held v w.facts) (sym all_read) (entered held (λ x. refl))

      -- a number that is held is that of a fact with a tree
      held_treed : (x : ℕ) → held x ≡ true → Tree (NumberSteps n k r ss) x
      held_treed x h =
          let f = tree_of_held n k r ss fine held w.facts w.exact treed x h in
          (trees_numbered n k r ss fine.formed fine.few x).1 (record { fact = f.it; tree = treed f.it f.among; numbered = f.numbered })

      ends_whole : Closed (NumberSteps n k r ss) (Member held) → WentOver n k r ss es P held (Ok Yes)
      ends_whole closed =
          all_there all_entered
          (λ f t. held_in n k r ss fine held w.facts w.exact treed f (tree_inside n k r ss fine f t)
          (fold closed ((trees_numbered n k r ss fine.formed fine.few (fact_number n k r f)).1 (record { fact = f; tree = t; numbered = refl }))))

      ends_missing : (x : ℕ) → Missing (NumberSteps n k r ss) held x → WentOver n k r ss es P held (Ok (No place))
      ends_missing x m =
          let fs = m.follows in
          let t = (trees_numbered n k r ss fine.formed fine.few x).0 ((trees_closed (NumberSteps n k r ss)).leads fs.premises x fs.step (all_map held_treed fs.premises fs.marked)) in
          fact_missing all_entered
          (record {
            fact = t.fact;
            tree = t.tree;
            absent = λ i. both_ways (held x) m.absent (ap held (sym t.numbered) ∙ in_held n k r ss fine held w.facts w.exact treed t.fact i);
          }) (w.at ∙ ap (λ v. length v + 1) (sym all_read))

-- ── the whole part ──
-- how a judge stands: by a rule base, what its store holds, the store's numbers, and which store it is
module _ {J : Type 0} (base : J → RuleBase) (held : J → ℕ → Bool) (limit capacity lent name : J → ℕ) where
  abbrev Stands : J → J → Type 0
  Stands j i = Stays (base j) (base i) (limit j) (limit i) (capacity j) (capacity i) (lent j) (lent i) (name j) (name i)

  abbrev Steps : RuleBase → List ℕ → ℕ → Type 0
  Steps b = NumberSteps b.counts.individuals b.counts.classes b.counts.roles b.statements.now

  abbrev Goes : List (List ℕ) → ℕ → J → J → Result Verdict Refusal → Type 0
  Goes left place j i o =
      Gone (λ j e. GoodHere (base j) (held j) (limit j) e) (λ j. capacity j ≤ tally (held j) (limit j)) (λ j. Closed (Steps (base j)) (Member (held j))) (λ j. Lacking (Steps (base j)) (held j))
      (λ j e i. KeptHere (base j) (held j) e (held i) × Stands j i) (λ j i. ((x : ℕ) → held i x ≡ held j x) × Stands j i) left place j i o

  stays_more : (j i l : J) → Stands j i → Stands i l → Stands j l
  stays_more j i l s t = record {
    base = t.base ∙ s.base;
    limit_kept = t.limit_kept ∙ s.limit_kept;
    capacity_kept = t.capacity_kept ∙ s.capacity_kept;
    lent_kept = t.lent_kept ∙ s.lent_kept;
    name_kept = t.name_kept ∙ s.name_kept;
  }

  pub stays : (left : List (List ℕ)) (place : ℕ) (j l : J) (o : Result Verdict Refusal) → Goes left place j l o → Stands j l
  stays left place j l o (at_bad comes bad same) = same.1
  stays left place j l o (at_full comes good full same) = same.1
  stays left place j l o (past_good {after = after} {i = i} comes good room kept others) = stays_more j i l kept.1 (stays after (place + 1) i l o others)
  stays left place j l o (at_lack lacks) = record { base = refl; limit_kept = refl; capacity_kept = refl; lent_kept = refl; name_kept = refl }
  stays left place j l o (at_end whole) = record { base = refl; limit_kept = refl; capacity_kept = refl; lent_kept = refl; name_kept = refl }

  module _ (b : RuleBase) (es : List (List ℕ)) (F P : ℕ) (wide : fact_limit b.counts.individuals b.counts.classes b.counts.roles ≤ F) (room : (j : J) → tally (held j) (limit j) ≤ capacity j) where
    -- the judge stands by this rule base and these numbers
    record By (j : J) : Type 0 where
      base_is : base j ≡ b
      limit_is : limit j ≡ F
      capacity_is : capacity j ≡ P

    by_more : (j i : J) → By j → Stands j i → By i
    by_more j i y s = record { base_is = s.base ∙ y.base_is; limit_is = s.limit_kept ∙ y.limit_is; capacity_is = s.capacity_kept ∙ y.capacity_is }

    room_by : (j : J) → By j → tally (held j) F ≤ P
    room_by j y = let l = room j in omega (arith, y.capacity_is, ap (tally (held j)) y.limit_is)

    abbrev Going_by : (ℕ → Bool) → List (List ℕ) → ℕ → Type 0
    Going_by has left place = Going b.counts.individuals b.counts.classes b.counts.roles b.statements.now es F has left place

    abbrev Ends : (ℕ → Bool) → Result Verdict Refusal → Type 0
    Ends has o = WentOver b.counts.individuals b.counts.classes b.counts.roles b.statements.now es P has o

    bad_by : (j : J) (e : Entry) → By j → ¬ GoodHere (base j) (held j) (limit j) e → BadByHeld b.counts.individuals b.counts.classes b.counts.roles b.statements.now (held j) e
    bad_by j e y bad f g =
        let low = low b.counts.individuals b.counts.classes b.counts.roles f g.tells.inside in
        subst (λ (c : RuleBase). ¬ GoodHere c (held j) (limit j) e) y.base_is bad
        (record { number = _; good = record { fact = f; good = g; numbered = refl }; below = omega (arith, low, y.limit_is) })

    went : (left : List (List ℕ)) (place : ℕ) (j l : J) (o : Result Verdict Refusal) → Goes left place j l o → By j → Going_by (held j) left place → Ends (held l) o
    went left place j l o (at_bad {e = e} comes bad same) y w = ends_bad _ _ _ _ (base_fine b) es F (held j) left place w P (room_by j y) e _ comes (bad_by j e y bad) (held l) same.0
    went left place j l o (at_full {e = e} comes good full same) y w =
        let g = subst (λ (c : RuleBase). GoodHere c (held j) (limit j) e) y.base_is good in
        ends_full _ _ _ _ (base_fine b) es F (held j) left place w P (room_by j y) e _ comes g.number g.good wide (omega (arith, y.capacity_is, ap (tally (held j)) y.limit_is)) (held l) same.0
    went left place j l o (past_good {after = after} {i = i} {e = e} comes good free kept others) y w =
        let k = subst (λ (c : RuleBase). KeptHere c (held j) e (held i)) y.base_is kept.0 in
        went after (place + 1) i l o others (by_more j i y kept.1) (going_more _ _ _ _ (base_fine b) es F (held j) left place w e after comes k.number k.good wide (held i) k.added)
    went left place j l o (at_lack lacks) y w =
        let m = subst (λ (c : RuleBase). Lacking (Steps c) (held j)) y.base_is lacks in
        ends_missing _ _ _ _ (base_fine b) es F (held j) [] place w P (room_by j y) refl m.number m.missing
    went left place j l o (at_end whole) y w = ends_whole _ _ _ _ (base_fine b) es F (held j) [] place w P (room_by j y) refl (subst (λ (c : RuleBase). Closed (Steps c) (Member (held j))) y.base_is whole)

  -- from an empty store on
  pub went_over : (es : List (List ℕ)) (j l : J) (o : Result Verdict Refusal) → (room : (j : J) → tally (held j) (limit j) ≤ capacity j) → Goes es 1 j l o → ((x : ℕ) → held j x ≡ false) →
      fact_limit (base j).counts.individuals (base j).counts.classes (base j).counts.roles ≤ limit j →
      WentOver (base j).counts.individuals (base j).counts.classes (base j).counts.roles (base j).statements.now es (capacity j) (held l) o
  went_over es j l o room goes empty wide =
      went (base j) es (limit j) (capacity j) wide room es 1 j l o goes (record { base_is = refl; limit_is = refl; capacity_is = refl }) (going_none _ _ _ _ es (limit j) (held j) empty)
