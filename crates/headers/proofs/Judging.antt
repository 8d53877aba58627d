-- The contents of four parts, and what follows from them.
use Rattle.std.proofs.Common.{◌≡◌, ℕ, ◌/◌, Bool, true, false, cond, List, length, Some, None, Ok, Err, Option, Result, sym, refl, ap, ◌∙◌, arith}
use Rattle.rules.specs.Limits.{within_limits}
use Rattle.rules.specs.Refusals.{refusal}
use Rattle.rules.specs.declared.refusals.Reason.TheVariants.{WrongContent, CountOutOfLimits}
use Rattle.rules.specs.declared.refusals.Refusal.{Refusal}
use Rattle.headers.specs.declared.record.Record.{Record}
use Rattle.headers.specs.Names.{lines, are_names}
use Rattle.headers.specs.Bytes.{cut, even, all}
use Rattle.headers.specs.Records.{is_record, records_refusal}
use Rattle.std.proofs.lemmas.Bool.{and_parts}
use Rattle.headers.specs.Header.{are_records, records_in, content_refusal, judgement, holding, refuse, judged, of_parts, decode, contents, part, directory_refusal}
use Rattle.headers.specs.Theorems.{Bytes}
use Rattle.headers.specs.declared.header.Header.{Header as View}
use Rattle.headers.specs.Views.{Parts, Tally, Cut, Held, Opened, Reads, holding_of, judgement_of}
use Rattle.headers.proofs.Pieces.{length_records}
use Rattle.headers.proofs.Backward.{one_file, accepted_proper}
use Rattle.headers.proofs.Spelling.{known_length}
use Rattle.headers.proofs.Tests.{four_pass}

module _ (p : Parts) (t : Tally) (px : are_names p.individuals.now ≡ true) (pc : are_names p.classes.now ≡ true) (pv : are_names p.roles.now ≡ true) (ps : are_records p.statements.now ≡ true)
    (en : t.individuals ≡ length (lines p.individuals.now)) (ek : t.classes ≡ length (lines p.classes.now)) (er : t.roles ≡ length (lines p.roles.now)) (em : t.statements ≡ length p.statements.now / 8) where
  pub held_from : Held p t
  held_from =
      let s : List ℕ = p.statements.now in
      record {
        right = four_pass (are_names p.individuals.now) (are_names p.classes.now) (are_names p.roles.now) (are_records p.statements.now)
            (refusal WrongContent 1 0) (refusal WrongContent 2 0) (refusal WrongContent 3 0) (refusal WrongContent 4 0) px pc pv ps;
        counted = record { individuals = en; classes = ek; roles = er; statements = em ∙ sym (length_records s) };
        each = known_length (cut 8 s) (and_parts (even 8 s) (all is_record (cut 8 s)) ps).1 ∙ (length_records s ∙ sym em);
      }

-- counts outside their limits, and inside them
pub outside : (n k r m : ℕ) (xs : List Record) (e : Refusal) → within_limits n k r m ≡ false → e ≡ refusal CountOutOfLimits 0 0 → judgement n k r m xs ≡ Some e
outside n k r m xs e w is = ap (λ (b : Bool). cond b (records_refusal n k r 0 xs) (Some (refusal CountOutOfLimits 0 0))) w ∙ ap Some (sym is)

pub inside : (n k r m n' k' r' : ℕ) (xs : List Record) (o : Option Refusal) → within_limits n k r m ≡ true → n' ≡ n → k' ≡ k → r' ≡ r →
    records_refusal n' k' r' 0 xs ≡ o → judgement n k r m xs ≡ o
inside n k r m n' k' r' xs o w i c v e =
    ap (λ (b : Bool). cond b (records_refusal n k r 0 xs) (Some (refusal CountOutOfLimits 0 0))) w
    ∙ (ap (λ (x : ℕ). records_refusal x k r 0 xs) (sym i) ∙ (ap (λ (x : ℕ). records_refusal n' x r 0 xs) (sym c) ∙ (ap (λ (x : ℕ). records_refusal n' k' x 0 xs) (sym v) ∙ e)))

module _ (b : List ℕ) (p : Parts) (k : Cut b p) where
  -- one function of the four parts
  over_parts : {X : Type 0} (f : List ℕ → List ℕ → List ℕ → List ℕ → X) → f (part b 0) (part b 1) (part b 2) (part b 3) ≡ f p.individuals.now p.classes.now p.roles.now p.statements.now
  over_parts f = rw (k.individuals, k.classes, k.roles, k.statements) refl

  decodes_parts : decode b ≡ of_parts p.individuals.now p.classes.now p.roles.now p.statements.now
  decodes_parts = ap (λ o. refuse o (of_parts (part b 0) (part b 1) (part b 2) (part b 3))) k.right ∙ over_parts of_parts

  pub held_decodes : (t : Tally) → Held p t → decode b ≡ refuse (judgement t.individuals t.classes t.roles t.statements (records_in p.statements.now)) (Ok (holding_of p))
  held_decodes t h =
      let d = h.counted in
      decodes_parts ∙ (ap (λ o. refuse o (judged p.individuals.now p.classes.now p.roles.now p.statements.now)) h.right ∙ rw (d.individuals, d.classes, d.roles, d.statements) refl)

-- a view of a file
module _ (b : List ℕ) (v : View) where
  module _ (o : Opened b v) where
    judged_is : decode b ≡ refuse (judgement_of v) (Ok (holding_of v.parts))
    judged_is = held_decodes b v.parts o.cut v.tally o.held

    pub refused_from : (e : Refusal) → judgement_of v ≡ Some e → decode b ≡ Err e
    refused_from e j = judged_is ∙ ap (λ o. refuse o (Ok (holding_of v.parts))) j

    pub decodes_from : judgement_of v ≡ None → decode b ≡ Ok (holding_of v.parts)
    decodes_from j = judged_is ∙ ap (λ o. refuse o (Ok (holding_of v.parts))) j

    pub reads_from : Bytes b → judgement_of v ≡ None → Reads b v
    reads_from y j =
        let d = decodes_from j in
        record { is = d; opened = o; proper = accepted_proper b (holding_of v.parts) d; whole = one_file b (holding_of v.parts) y d }

-- a refusal of the contents is the header's
two_stages : {X : Type 0} (o p q : Option Refusal) (t : Result X Refusal) (x : X) (e : Refusal) → refuse o (refuse p (Ok x)) ≡ Err e → refuse o (refuse p (refuse q t)) ≡ Err e
two_stages (Some f) p q t x e h = let i : f ≡ e = cc in ap Err i
two_stages None (Some f) q t x e h = let i : f ≡ e = cc in ap Err i
two_stages None None q t x e h = let z : ◌≡◌ {A = ℕ} 0 1 = cc in absurd (omega arith)

pub contents_refused : (b : List ℕ) (e : Refusal) → contents b ≡ Err e → decode b ≡ Err e
contents_refused b e h =
    let x : List ℕ = part b 0 in let c : List ℕ = part b 1 in let v : List ℕ = part b 2 in let s : List ℕ = part b 3 in
    two_stages (directory_refusal b) (content_refusal x c v s) (judgement (length (lines x)) (length (lines c)) (length (lines v)) (length (records_in s)) (records_in s)) (Ok (holding x c v s)) (holding x c v s) e h
