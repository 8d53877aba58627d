-- The promise, from what match answers case by case.
use Rattle.std.proofs.Common.{◌≡◌, ℕ, ◌-◌, ◌<◌, ◌≤◌, Bool, true, false, ◌&&◌, leb, ◌⊎◌, ◌↔◌, List, [], ◌∷◌, length, take, drop, Some, None, Ok, Err, Result, sym, refl, ap, ◌∙◌, subst, inl, inr, arith, length-append}
use Rattle.std.proofs.lemmas.List.{take_at}
use Rattle.std.proofs.lemmas.Bool.{and_parts, leb-true}
use Rattle.rules.specs.Fits.{base_refusal, if_passed, pass}
use Rattle.rules.specs.Formed.{all_formed, unrefused_accepted, accepted_kept}
use Rattle.rules.specs.declared.refusals.Refusal.{Refusal}
use Rattle.rules.specs.declared.statements.Statement.{Statement}
use Rattle.marks.specs.Trees.{In}
use Rattle.calculus.specs.Steps.{HasTree}
use Rattle.calculus.specs.Numbers.{fact_limit}
use Rattle.calculus.specs.declared.terms.Fact.{Fact}
use Rattle.headers.specs.Header.{Header, part}
use Rattle.headers.proofs.Backward.{accepted_proper}
use Rattle.headers.specs.Bytes.{cut}
use Rattle.recovery.specs.Recovery.{recovery_refusal, CutRecovery}
use Rattle.intake.specs.Outcomes.{HeaderMeans}
use Rattle.intake.specs.Taken.{Taken}
use Rattle.intake.proofs.One.{one_header}
use Rattle.matching.specs.Complete.{Good, AllGood, entries_in, Complete}
use Rattle.matching.specs.Matched.{Lacks, Next, too_small, WentOver, bad_entry, no_room, fact_missing, all_there, Compared, file_refused, limit_low, other_header, by_entries, ComparedWith, Matched, header_refused, header_accepted, Promise}
use Rattle.recovery.specs.declared.entries.Verdict.{Verdict}
use Rattle.recovery.specs.declared.entries.Verdict.TheVariants.{Yes, No}
use Rattle.matching.proofs.Goods.{Fine, treed_none, all_one, cut_at, all_long}
use Rattle.matching.proofs.Holding.{holds_none}

-- an accepted header is within its limits
within : (a b c d e f : Bool) → ((a && b) && ((c && d) && (e && f))) ≡ true → (b ≡ true) × (d ≡ true) × (e ≡ true) × (f ≡ true)
within a b c d e f h =
    let p = and_parts (a && b) ((c && d) && (e && f)) h in
    let q = and_parts (c && d) (e && f) p.1 in
    let s = and_parts e f q.1 in
    ((and_parts a b p.0).1, (and_parts c d q.0).1, s.0, s.1)

pub header_fine : (b : List ℕ) (h : Header) → HeaderMeans b (Ok h) → Fine (length h.individuals) (length h.classes) (length h.roles) h.statements
header_fine b h m =
    let a = unrefused_accepted (length h.individuals) (length h.classes) (length h.roles) h.statements (accepted_proper b h m.0).fitting in
    let w = within (leb 1 (length h.individuals)) (leb (length h.individuals) 128) (leb 1 (length h.classes)) (leb (length h.classes) 256) (leb (length h.roles) 32) (leb (length h.statements) 384) a.within in
    record {
      individuals = leb-true _ _ w.0;
      classes = leb-true _ _ w.1;
      roles = leb-true _ _ w.2;
      few = leb-true _ _ w.3;
      formed = all_formed _ _ _ _ a.fitting;
    }

no_is_yes : (p : ℕ) → No p ≡ Yes → ⊥
no_is_yes p e = let z : ◌≡◌ {A = ℕ} 0 1 = cc in omega arith

-- what the entries say, and what a complete file has
module _ (n k r : ℕ) (ss : List Statement) (fine : Fine n k r ss) (es : List (List ℕ)) (facts : List Fact) (good : AllGood n k ss [] es facts) where
  -- no entry of such a row is bad after the facts of those in front
  never_bad : (front : List (List ℕ)) (e : List ℕ) (fs : List Fact) → Next es front e → AllGood n k ss [] front fs → ((f : Fact) → ¬ Good n k ss fs e f) → ⊥
  never_bad front e fs next before bad =
      let c = cut_at n k r ss fine front e next.rest (subst (λ (v : List (List ℕ)). AllGood n k ss [] v facts) next.is good) in
      bad c.fact (subst (λ (v : List Fact). Good n k ss v e c.fact) (all_one n k r ss fine front c.good before (treed_none n k ss)) c.next)

  never_lacks : (fs : List Fact) → AllGood n k ss [] es fs → ((f : Fact) → HasTree n k ss f → In f facts) → Lacks n k ss fs → ⊥
  never_lacks fs also every l =
      l.absent (subst (In l.fact) (all_one n k r ss fine es good also (treed_none n k ss)) (every l.fact l.tree))

more_entries : (n k r : ℕ) (ss : List Statement) → Fine n k r ss → (es front : List (List ℕ)) (e : List ℕ) (facts : List Fact) (P : ℕ) → Next es front e → AllGood n k ss [] front facts → length facts ≡ P → P < length es
more_entries n k r ss fine es front e facts P next before m =
    omega (arith, all_long n k r ss fine before, ap length next.is, length-append front (e ∷ next.rest))

-- ── the file and the store ──
module _ (b : List ℕ) (n k r : ℕ) (ss : List Statement) (file : List ℕ) (F P : ℕ) (unchanged : Type 0) (held : ℕ → Bool) where
  module _ (header entries : List ℕ) (parts : CutRecovery file header entries) (wide : fact_limit n k r ≤ F) where
    pub by_header : (header ≡ b → ⊥) → ((x : ℕ) → held x ≡ false) → Compared b n k r ss file F P unchanged held (Ok (No 0))
    by_header other clear = other_header parts.right wide (λ e. other (parts.header' ∙ e)) (holds_none n k r held clear)

    pub by_going : (o : Result Verdict Refusal) (Q : ℕ) → header ≡ b → Q ≡ P → WentOver n k r ss (cut 14 entries) Q held o → Compared b n k r ss file F P unchanged held o
    by_going o Q same q w =
        by_entries parts.right wide (sym parts.header' ∙ same)
        (subst (λ (m : ℕ). WentOver n k r ss (entries_in file) m held o) q (subst (λ (v : List ℕ). WentOver n k r ss (cut 14 v) Q held o) parts.entries' w))

-- ── the promise ──
abbrev Kept : List ℕ → Header → List ℕ → (F P : ℕ) → Result Verdict Refusal → Type 0
Kept b h file F P (Ok v) = (v ≡ Yes) ↔ Complete b h file
Kept b h file F P (Err e) = Complete b h file → (e ≡ too_small) × ((F < fact_limit (length h.individuals) (length h.classes) (length h.roles)) ⊎ (P < length (entries_in file)))

module _ (b : List ℕ) (h : Header) (file : List ℕ) (F P : ℕ) (unchanged : Type 0) (held : ℕ → Bool) (means : HeaderMeans b (Ok h)) where
  fine : Fine (length h.individuals) (length h.classes) (length h.roles) h.statements
  fine = header_fine b h means

  of_entries : (o : Result Verdict Refusal) → recovery_refusal file ≡ None → part file 0 ≡ b →
      WentOver (length h.individuals) (length h.classes) (length h.roles) h.statements (entries_in file) P held o → Kept b h file F P o
  of_entries o right same (bad_entry {front} {e} {facts} {p} went next bad at) =
      (λ y. absurd (no_is_yes p y), λ w. absurd (never_bad _ _ _ _ fine (entries_in file) w.facts w.good front e facts next went.good bad))
  of_entries o right same (no_room {front} {e} {facts} went next more full) = λ w. (refl, inr (more_entries _ _ _ _ fine (entries_in file) front e facts P next went.good full))
  of_entries o right same (fact_missing {facts} {p} went lacks at) = (λ y. absurd (no_is_yes p y), λ w. absurd (never_lacks _ _ _ _ fine (entries_in file) w.facts w.good facts went.good w.every lacks))
  of_entries o right same (all_there {facts} went every) = (λ y. record { formed = right; repeats = same; facts = facts; good = went.good; every = every }, λ w. refl)

  of_file : (o : Result Verdict Refusal) → ComparedWith b h file F P unchanged held o → Kept b h file F P o
  of_file o (file_refused {e} refused u) = λ w. absurd (never_refused e refused w) where
    never_refused : (e : Refusal) → recovery_refusal file ≡ Some e → Complete b h file → ⊥
    never_refused e refused w = let f = w.formed in let z : ◌≡◌ {A = ℕ} 0 1 = cc in omega arith
  of_file o (limit_low right low u) = λ w. (refl, inl low)
  of_file o (other_header right wide other exact) = (λ y. absurd (no_is_yes 0 y), λ w. absurd (other w.repeats))
  of_file o (by_entries right wide same w) = of_entries o right same w

ok_ok : (h i : Header) → ◌≡◌ {A = Result Header Refusal} (Ok h) (Ok i) → h ≡ i
ok_ok h i e = cc

err_ok : (e : Refusal) (i : Header) → ◌≡◌ {A = Result Header Refusal} (Err e) (Ok i) → ⊥
err_ok e i h = let z : ◌≡◌ {A = ℕ} 0 1 = cc in omega arith

module _ (b file : List ℕ) (F P : ℕ) (unchanged : Type 0) (held : ℕ → Bool) where
  all_kept : (o : Result Verdict Refusal) → Matched b file F P unchanged held o → (i : Header) → HeaderMeans b (Ok i) → Kept b i file F P o
  all_kept o (header_accepted {h} means c) i m = subst (λ (x : Header). Kept b x file F P o) (ok_ok h i (one_header b (Ok h) (Ok i) means m)) (of_file b h file F P unchanged held means o c)
  all_kept o (header_refused {e} refused u) i m = λ w. absurd (err_ok e i (one_header b (Err e) (Ok i) refused m))

  pub promised : (o : Result Verdict Refusal) → Matched b file F P unchanged held o → Promise b file F P o
  promised (Ok v) c = all_kept (Ok v) c
  promised (Err e) c = all_kept (Err e) c

  -- ── the header ──
  pub by_refused : (o : Result Verdict Refusal) (d e : Refusal) → o ≡ Err d → d ≡ e → HeaderMeans b (Err e) → unchanged → Matched b file F P unchanged held o
  by_refused o d e p q refused u = subst (Matched b file F P unchanged held) (sym (p ∙ ap Err q)) (header_refused refused u)

  -- the statements at the front of a memory, taken back as a rule base
  pub by_accepted : (n k r m : ℕ) (before after : List Statement) → Taken b n k r m before after → (n' k' r' : ℕ) (us ts : List Statement) → n' ≡ n → k' ≡ k → r' ≡ r → us ≡ take (m - 0) after → ts ≡ if_passed (pass n k r m us) us →
      (o : Result Verdict Refusal) → Compared b n' k' r' ts file F P unchanged held o → Matched b file F P unchanged held o
  by_accepted n k r m before after t n' k' r' us ts ne ke re ue te o c =
      let h = t.header in
      let z : m - 0 ≡ m = omega arith in
      let s : us ≡ h.statements = ue ∙ ap (λ (i : ℕ). take i after) z ∙ ap (take m) t.copied ∙ take_at h.statements (drop m before) m (sym t.statements) in
      let fits : if_passed (pass n k r m us) us ≡ us =
      accepted_kept (length h.individuals) (length h.classes) (length h.roles) n k r m us (ap (base_refusal (length h.individuals) (length h.classes) (length h.roles)) s ∙ t.proper.fitting) t.individuals t.classes t.roles (t.statements ∙ ap length (sym s)) in
      let a : n' ≡ length h.individuals = ne ∙ t.individuals in
      let d : k' ≡ length h.classes = ke ∙ t.classes in
      let v : r' ≡ length h.roles = re ∙ t.roles in
      let w : ts ≡ h.statements = te ∙ fits ∙ s in
      header_accepted {h = h} t.means
      (subst (λ (x : ℕ). Compared b x (length h.classes) (length h.roles) h.statements file F P unchanged held o) a
      (subst (λ (x : ℕ). Compared b n' x (length h.roles) h.statements file F P unchanged held o) d
      (subst (λ (x : ℕ). Compared b n' k' x h.statements file F P unchanged held o) v
      (subst (λ (x : List Statement). Compared b n' k' r' x file F P unchanged held o) w c))))
