-- From an opened header to its outcome.
use Rattle.std.proofs.Common.{◌≡◌, ℕ, ◌-◌, ◌≤◌, true, List, ◌++◌, length, take, drop, Ok, Err, sym, ap, ◌∙◌, subst, inr, arith}
use native.Mathlib.Decide.{dec_lt}
use lib.Seq.{take-append-le}
use Rattle.std.proofs.lemmas.List.{take_all}
use Rattle.rules.specs.Fits.{all_fit, if_passed, pass}
use Rattle.rules.specs.Formed.{unrefused_fit, passed_kept}
use Rattle.rules.specs.Refusals.{refusal}
use Rattle.rules.specs.declared.counts.Counts.{Counts}
use Rattle.rules.specs.declared.refusals.Refusal.{Refusal}
use Rattle.rules.specs.declared.refusals.Reason.TheVariants.{NotAdmissible}
use Rattle.rules.specs.declared.statements.Statement.{Statement}
use Rattle.roles.specs.Roles.{Admissible, FirstBreaking}
use Rattle.headers.specs.declared.header.Header.{Header as View}
use Rattle.headers.specs.Header.{records_in, statements_in, decode}
use Rattle.headers.specs.Theorems.{Bytes}
use Rattle.headers.specs.Views.{Copied, holding_of}
use Rattle.headers.proofs.Backward.{passed, accepted_proper}
use Rattle.headers.proofs.Spelling.{rows}
use Rattle.headers.proofs.Judging.{decodes_from, reads_from}
use Rattle.intake.specs.Outcomes.{HeaderMeans}
use Rattle.intake.specs.Taken.{Taken, Viewed, FormedFrom, Admitted}

-- All statements were copied where there is room for them.
module _ (before after ss : List Statement) (n : ℕ) (k : Copied before after ss n) (room : length ss ≤ length before) where
  pub all_copied : n ≡ length ss
  all_copied = elim (dec_lt n (length ss)) [ yes low ↦ absurd (omega (arith, k.most low)) | no high ↦ omega (arith, k.some) ]

  pub copied_front : after ≡ ss ++ drop n before
  copied_front = k.statements ∙ ap (λ (v : List Statement). v ++ drop n before) (take_all n ss (omega (arith, all_copied)))

  taken_back : take n after ≡ ss
  taken_back =
      let low : n ≤ length ss = k.some in
      ap (take n) copied_front ∙ take-append-le n ss (drop n before) low ∙ take_all n ss (omega (arith, all_copied))

module _ (b : List ℕ) (v : View) (counts : Counts) (f : FormedFrom b v counts) where
  formed_means : decode b ≡ Ok (holding_of v.parts)
  formed_means = decodes_from b v f.opened f.judged

  room_for_all : (before : List Statement) → length before ≡ 384 → length (statements_in v.parts.statements.now) ≤ length before
  room_for_all before room = omega (arith, f.opened.held.each, f.tallied.statements, counts.few_statements)

  -- the statements that were copied, taken as a rule base
  module _ (before after : List Statement) (room : length before ≡ 384) (t : ℕ) (copied : Copied before after (statements_in v.parts.statements.now) t)
      (us ts : List Statement) (eu : us ≡ take (t - 0) after) (et : ts ≡ if_passed (pass counts.individuals counts.classes counts.roles counts.statements us) us) where
    fitting : all_fit counts.individuals counts.classes counts.roles (statements_in v.parts.statements.now) ≡ true
    fitting =
        let n = v.tally in let xs = records_in v.parts.statements.now in let y = f.tallied in
        rw (y.individuals, y.classes, y.roles) (unrefused_fit n.individuals n.classes n.roles 0 (statements_in v.parts.statements.now) (rows n.individuals n.classes n.roles 0 xs (passed n.individuals n.classes n.roles n.statements xs f.judged).fields).fit)

    same : us ≡ statements_in v.parts.statements.now
    same =
        let z : t - 0 ≡ t = omega arith in
        eu ∙ ap (λ (i : ℕ). take i after) z ∙ taken_back before after (statements_in v.parts.statements.now) t copied (room_for_all before room)

    base_has : ts ≡ statements_in v.parts.statements.now
    base_has =
        et ∙ ap (λ (vs : List Statement). if_passed (pass counts.individuals counts.classes counts.roles counts.statements vs) vs) same
        ∙ passed_kept counts.individuals counts.classes counts.roles counts.statements (statements_in v.parts.statements.now) (f.tallied.statements ∙ sym f.opened.held.each) fitting

    pub admits : Admissible ts → Admitted b v counts
    admits a = record { formed = f; admissible = subst Admissible base_has a }

    pub breaks : (e : Refusal) → FirstBreaking ts e.place × (e ≡ refusal NotAdmissible e.place 0) → HeaderMeans b (Err e)
    breaks e h = inr (record { header = holding_of v.parts; formed = formed_means; place = e.place; first = subst (λ (vs : List Statement). FirstBreaking vs e.place) base_has h.0; is = h.1 })

module _ (b : List ℕ) (v : View) (counts : Counts) (a : Admitted b v counts) where
  f : FormedFrom b v counts
  f = a.formed

  means : HeaderMeans b (Ok (holding_of v.parts))
  means = (formed_means b v counts f, a.admissible)

  pub viewed : Bytes b → Viewed b v
  viewed y = record { means = means; reads = reads_from b v f.opened y f.judged }

  pub taken : (before after : List Statement) → length before ≡ 384 → (t : ℕ) → Copied before after (statements_in v.parts.statements.now) t →
      Taken b counts.individuals counts.classes counts.roles counts.statements before after
  taken before after room t copied =
      let ss = statements_in v.parts.statements.now in
      let y = f.tallied in
      let d = f.opened.held.counted in
      let low = room_for_all b v counts f before room in
      let size : counts.statements ≡ length (statements_in v.parts.statements.now) = y.statements ∙ sym f.opened.held.each in
      record {
        header = holding_of v.parts;
        means = means;
        proper = accepted_proper b (holding_of v.parts) means.0;
        individuals = y.individuals ∙ d.individuals;
        classes = y.classes ∙ d.classes;
        roles = y.roles ∙ d.roles;
        statements = size;
        copied = copied_front before after ss t copied low ∙ ap (λ (i : ℕ). ss ++ drop i before) (all_copied before after ss t copied low ∙ sym size);
      }
