-- Match has no choice: two answers to the same bytes, with the same limit and capacity, are the same.
use Rattle.std.proofs.Common.{◌≡◌, ℕ, ◌+◌, ◌≤◌, Bool, ◌⊎◌, List, [], ◌∷◌, ◌++◌, length, Some, None, Ok, Err, Option, Result, sym, refl, ap, ◌∙◌, subst, inl, inr, arith, length-append}
use Rattle.std.proofs.lemmas.List.{append-nil}
use Rattle.rules.specs.declared.refusals.Refusal.{Refusal}
use Rattle.rules.specs.declared.statements.Statement.{Statement}
use Rattle.marks.specs.Trees.{In}
use Rattle.calculus.specs.Steps.{HasTree}
use Rattle.calculus.specs.declared.terms.Fact.{Fact}
use Rattle.headers.specs.Header.{Header}
use Rattle.recovery.specs.Recovery.{recovery_refusal}
use Rattle.intake.proofs.One.{one_header}
use Rattle.matching.specs.Complete.{Good, AllGood}
use Rattle.matching.specs.Matched.{Lacks, too_small, WentOver, bad_entry, no_room, fact_missing, all_there, Compared, file_refused, limit_low, other_header, by_entries, ComparedWith, header_refused, header_accepted, OneAnswer}
use Rattle.recovery.specs.declared.entries.Verdict.{Verdict}
use Rattle.recovery.specs.declared.entries.Verdict.TheVariants.{Yes, No}
use Rattle.matching.proofs.Goods.{Fine, treed_none, all_one, cut_at, all_long}
use Rattle.matching.proofs.Kept.{header_fine}

-- ── two cuts of one row ──
record Longer {X : Type 0} (xs left ys : List X) : Type 0 where
  head : X
  tail : List X
  after : List X
  is : ys ≡ xs ++ (head ∷ tail)
  next : left ≡ head ∷ after

sides : {X : Type 0} (xs ys left right : List X) → xs ++ left ≡ ys ++ right → Longer xs left ys ⊎ (((xs ≡ ys) × (left ≡ right)) ⊎ Longer ys right xs)
sides [] [] left right e = inr (inl (refl, e))
sides [] (y ∷ ys) left right e = inl (record { head = y; tail = ys; after = ys ++ right; is = refl; next = e })
sides (x ∷ xs) [] left right e = inr (inr (record { head = x; tail = xs; after = xs ++ left; is = refl; next = sym e }))
sides (x ∷ xs) (y ∷ ys) left right e =
    let h : x ≡ y = cc in
    let t : xs ++ left ≡ ys ++ right = cc in
    elim (sides xs ys left right t) [
      | inl l ↦ let i = l.is in inl (record { head = l.head; tail = l.tail; after = l.after; is = cc; next = l.next })
      | inr (inl s) ↦ let i = s.0 in inr (inl (cc, s.1))
      | inr (inr l) ↦ let i = l.is in inr (inr (record { head = l.head; tail = l.tail; after = l.after; is = cc; next = l.next }))
    ]

-- ── where going over entries stops, and why ──
data Why (n k : ℕ) (ss : List Statement) (P : ℕ) (facts : List Fact) (place : ℕ) : List (List ℕ) → Result Verdict Refusal → Type 0 where
  at_bad : {e : List ℕ} {rest : List (List ℕ)} {p : ℕ} → ((f : Fact) → ¬ Good n k ss facts e f) → p ≡ place → Why n k ss P facts place (e ∷ rest) (Ok (No p))
  at_full : {e : List ℕ} {rest : List (List ℕ)} {f : Fact} → Good n k ss facts e f → length facts ≡ P → Why n k ss P facts place (e ∷ rest) (Err too_small)
  at_lack : {p : ℕ} → Lacks n k ss facts → p ≡ place → Why n k ss P facts place [] (Ok (No p))
  at_end : ((f : Fact) → HasTree n k ss f → In f facts) → Why n k ss P facts place [] (Ok Yes)

record Stop (n k : ℕ) (ss : List Statement) (es : List (List ℕ)) (P : ℕ) (o : Result Verdict Refusal) : Type 0 where
  front : List (List ℕ)
  left : List (List ℕ)
  facts : List Fact
  split : es ≡ front ++ left
  good : AllGood n k ss [] front facts
  room : length facts ≤ P
  why : Why n k ss P facts (length front + 1) left o

stop_of : (n k r : ℕ) (ss : List Statement) (es : List (List ℕ)) (P : ℕ) (held : ℕ → Bool) (o : Result Verdict Refusal) → WentOver n k r ss es P held o → Stop n k ss es P o
stop_of n k r ss es P held o (bad_entry {front} {e} {facts} went next bad at) = record { front = front; left = e ∷ next.rest; facts = facts; split = next.is; good = went.good; room = went.room; why = at_bad bad at }
stop_of n k r ss es P held o (no_room {front} {e} {facts} {f} went next good full) = record { front = front; left = e ∷ next.rest; facts = facts; split = next.is; good = went.good; room = went.room; why = at_full {f = f} good full }
stop_of n k r ss es P held o (fact_missing {facts} went lacks at) = record { front = es; left = []; facts = facts; split = sym (append-nil es); good = went.good; room = went.room; why = at_lack lacks at }
stop_of n k r ss es P held o (all_there {facts} went every) = record { front = es; left = []; facts = facts; split = sym (append-nil es); good = went.good; room = went.room; why = at_end every }

module _ (n k r : ℕ) (ss : List Statement) (fine : Fine n k r ss) (P : ℕ) where
  -- no other row of good entries goes on past a stop
  past : (o : Result Verdict Refusal) (front left : List (List ℕ)) (facts : List Fact) (place : ℕ) → AllGood n k ss [] front facts → Why n k ss P facts place left o →
      (whole : List (List ℕ)) (others : List Fact) → AllGood n k ss [] whole others → length others ≤ P → Longer front left whole → ⊥
  past o front _ facts place good (at_bad {e} bad at) whole others also room l =
      let next = l.next in
      let h : l.head ≡ e = cc in
      let c = cut_at n k r ss fine front l.head l.tail (subst (λ (v : List (List ℕ)). AllGood n k ss [] v others) l.is also) in
      bad c.fact (subst (λ (v : List ℕ). Good n k ss facts v c.fact) h (subst (λ (v : List Fact). Good n k ss v l.head c.fact) (all_one n k r ss fine front c.good good (treed_none n k ss)) c.next))
  past o front _ facts place good (at_full g full) whole others also room l =
      omega (arith, all_long n k r ss fine good, all_long n k r ss fine also, ap length l.is, length-append front (l.head ∷ l.tail))
  past o front _ facts place good (at_lack lacks at) whole others also room l = let next = l.next in let z : ◌≡◌ {A = ℕ} 0 1 = cc in omega arith
  past o front _ facts place good (at_end every) whole others also room l = let next = l.next in let z : ◌≡◌ {A = ℕ} 0 1 = cc in omega arith

  never : {X : Type 0} {x : X} {xs : List X} {Y : Type 0} → [] ≡ x ∷ xs → Y
  never e = let z : ◌≡◌ {A = ℕ} 0 1 = cc in absurd (omega arith)

  moved : (facts others : List Fact) (e d : List ℕ) (f : Fact) → facts ≡ others → e ≡ d → Good n k ss facts e f → Good n k ss others d f
  moved facts others e d f p q g = subst (λ (v : List ℕ). Good n k ss others v f) q (subst (λ (v : List Fact). Good n k ss v e f) p g)

  -- at the same stop there is one reason
  same_why : (o p : Result Verdict Refusal) (facts others : List Fact) (place : ℕ) (left right : List (List ℕ)) → facts ≡ others → left ≡ right → Why n k ss P facts place left o → Why n k ss P others place right p → o ≡ p
  same_why o p facts others place _ _ q l (at_bad bad at) (at_bad bad' at') = ap (λ (i : ℕ). Ok (No i)) (at ∙ sym at')
  same_why o p facts others place _ _ q l (at_bad {e} bad at) (at_full {e = d} {f = f} good full) = absurd (bad f (moved others facts d e f (sym q) (let h : d ≡ e = cc in h) good))
  same_why o p facts others place _ _ q l (at_bad bad at) (at_lack lacks at') = never (sym l)
  same_why o p facts others place _ _ q l (at_bad bad at) (at_end every) = never (sym l)
  same_why o p facts others place _ _ q l (at_full {e} {f = f} good full) (at_bad {e = d} bad at) = absurd (bad f (moved facts others e d f q (let h : e ≡ d = cc in h) good))
  same_why o p facts others place _ _ q l (at_full good full) (at_full good' full') = refl
  same_why o p facts others place _ _ q l (at_full good full) (at_lack lacks at) = never (sym l)
  same_why o p facts others place _ _ q l (at_full good full) (at_end every) = never (sym l)
  same_why o p facts others place _ _ q l (at_lack lacks at) (at_bad bad at') = never l
  same_why o p facts others place _ _ q l (at_lack lacks at) (at_full good full) = never l
  same_why o p facts others place _ _ q l (at_lack lacks at) (at_lack lacks' at') = ap (λ (i : ℕ). Ok (No i)) (at ∙ sym at')
  same_why o p facts others place _ _ q l (at_lack lacks at) (at_end every) = absurd (lacks.absent (subst (In lacks.fact) (sym q) (every lacks.fact lacks.tree)))
  same_why o p facts others place _ _ q l (at_end every) (at_bad bad at) = never l
  same_why o p facts others place _ _ q l (at_end every) (at_full good full) = never l
  same_why o p facts others place _ _ q l (at_end every) (at_lack lacks at) = absurd (lacks.absent (subst (In lacks.fact) q (every lacks.fact lacks.tree)))
  same_why o p facts others place _ _ q l (at_end every) (at_end every') = refl

  one_stop : (es : List (List ℕ)) (o p : Result Verdict Refusal) → Stop n k ss es P o → Stop n k ss es P p → o ≡ p
  one_stop es o p s t =
      elim (sides s.front t.front s.left t.left (sym s.split ∙ t.split)) [
        | inl l ↦ absurd (past o s.front s.left s.facts _ s.good s.why t.front t.facts t.good t.room l)
        | inr (inr l) ↦ absurd (past p t.front t.left t.facts _ t.good t.why s.front s.facts s.good s.room l)
        | inr (inl e) ↦
            same_why o p s.facts t.facts (length s.front + 1) s.left t.left
            (all_one n k r ss fine s.front s.good (subst (λ (v : List (List ℕ)). AllGood n k ss [] v t.facts) (sym e.0) t.good) (treed_none n k ss)) e.1 s.why
            (subst (λ (m : ℕ). Why n k ss P t.facts m t.left p) (ap (λ (v : List (List ℕ)). length v + 1) (sym e.0)) t.why)
      ]

-- ── the file and the store ──
clash : {Y : Type 0} (o : Option Refusal) (e : Refusal) → o ≡ Some e → o ≡ None → Y
clash o e p q = let z : ◌≡◌ {A = ℕ} 0 1 = cc in absurd (omega arith)

same_some : (o : Option Refusal) (d e : Refusal) → o ≡ Some d → o ≡ Some e → d ≡ e
same_some o d e p q = cc

module _ (b : List ℕ) (n k r : ℕ) (ss : List Statement) (fine : Fine n k r ss) (file : List ℕ) (F P : ℕ) (one other : ℕ → Bool) where
  one_compared : (o p : Result Verdict Refusal) → Compared b n k r ss file F P (Unit {0}) one o → Compared b n k r ss file F P (Unit {0}) other p → o ≡ p
  one_compared o p (file_refused {e = d} x u) (file_refused {e} y v) = ap Err (same_some (recovery_refusal file) d e x y)
  one_compared o p (file_refused {e = d} x u) (limit_low y low v) = clash (recovery_refusal file) d x y
  one_compared o p (file_refused {e = d} x u) (other_header y wide ne v) = clash (recovery_refusal file) d x y
  one_compared o p (file_refused {e = d} x u) (by_entries y wide same w) = clash (recovery_refusal file) d x y
  one_compared o p (limit_low x low u) (file_refused {e} y v) = clash (recovery_refusal file) e y x
  one_compared o p (limit_low x low u) (limit_low y low' v) = refl
  one_compared o p (limit_low x low u) (other_header y wide ne v) = absurd (omega arith)
  one_compared o p (limit_low x low u) (by_entries y wide same w) = absurd (omega arith)
  one_compared o p (other_header x wide ne u) (file_refused {e} y v) = clash (recovery_refusal file) e y x
  one_compared o p (other_header x wide ne u) (limit_low y low v) = absurd (omega arith)
  one_compared o p (other_header x wide ne u) (other_header y wide' ne' v) = refl
  one_compared o p (other_header x wide ne u) (by_entries y wide' same w) = absurd (ne same)
  one_compared o p (by_entries x wide same w) (file_refused {e} y v) = clash (recovery_refusal file) e y x
  one_compared o p (by_entries x wide same w) (limit_low y low v) = absurd (omega arith)
  one_compared o p (by_entries x wide same w) (other_header y wide' ne v) = absurd (ne same)
  one_compared o p (by_entries x wide same w) (by_entries y wide' same' w') = one_stop n k r ss fine P _ o p (stop_of n k r ss _ P one o w) (stop_of n k r ss _ P other p w')

err_same : (d e : Refusal) → ◌≡◌ {A = Result Header Refusal} (Err d) (Err e) → d ≡ e
err_same d e h = cc

ok_same : (h i : Header) → ◌≡◌ {A = Result Header Refusal} (Ok h) (Ok i) → h ≡ i
ok_same h i e = cc

err_ok : {Y : Type 0} (e : Refusal) (i : Header) → ◌≡◌ {A = Result Header Refusal} (Err e) (Ok i) → Y
err_ok e i h = let z : ◌≡◌ {A = ℕ} 0 1 = cc in absurd (omega arith)

pub one_answer : (b file : List ℕ) (F P : ℕ) → OneAnswer b file F P
one_answer b file F P one other o p (header_refused {e = d} x u) (header_refused {e} y v) = ap Err (err_same d e (one_header b (Err d) (Err e) x y))
one_answer b file F P one other o p (header_refused {e = d} x u) (header_accepted {h = i} y v) = err_ok d i (one_header b (Err d) (Ok i) x y)
one_answer b file F P one other o p (header_accepted {h} x u) (header_refused {e} y v) = err_ok e h (one_header b (Err e) (Ok h) y x)
one_answer b file F P one other o p (header_accepted {h} x u) (header_accepted {h = i} y v) =
    one_compared b _ _ _ _ (header_fine b h x) file F P one other o p u (subst (λ (j : Header). ComparedWith b j file F P (Unit {0}) other p) (ok_same i h (one_header b (Ok i) (Ok h) y x)) v)
