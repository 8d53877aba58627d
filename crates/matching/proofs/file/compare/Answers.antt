use Rattle.std.proofs.Common.{refl, ◌∙◌, arith}
use borrow.Author.Tests.{both_ways}
use Rattle.std.proofs.lemmas.Result.{err_from_is_err_and}
use Rattle.std.proofs.lemmas.Slice.Eq.{slice_eq-Decides}
use Rattle.matching.specs.Matched.{file_refused, limit_low}
use Rattle.matching.proofs.Kept.{by_header, by_going}
use Rattle.matching.proofs.file.compare.Goals as goal
use Rattle.std.proofs.lemmas.Bool.Decides.{Decides-eqb}

pub returns-in_err-parts : goal.returns-in_err-parts
returns-in_err-parts g c =
    let p = err_from_is_err_and c.from_residual.result c.from_residual.ensures.1 in
    record { compared = rw (p.1, p.2) (file_refused c.in_err-parts.ensures refl); limit_kept = refl; capacity_kept = refl; lent_kept = refl }

pub returns-then-limit-fact_limit : goal.returns-then-limit-fact_limit
returns-then-limit-fact_limit g c =
    let right = c.in_ok-parts.ensures in
    record {
      compared = rw c.into.ensures (limit_low right.right (omega (arith, c.limit.ensures, c.fact_limit.ensures)) refl);
      limit_kept = refl;
      capacity_kept = refl;
      lent_kept = refl;
    }

pub returns-then-eq : goal.returns-then-eq
returns-then-eq g c =
    let parts = c.in_ok-parts.ensures in
    let clear = c.clear.ensures in
    let judged = c.judge_part.ensures in
    record {
      compared = by_going _ _ _ _ _ _ _ _ _ _ _ _ parts (omega (arith, c.limit.ensures, c.fact_limit.ensures)) c.judge_part.result _ ((slice_eq-Decides Decides-eqb _ _ _ c.eq.ensures).0 c.if-eq.true) clear.capacity_kept judged.went;
      limit_kept = judged.limit_kept ∙ clear.limit_kept;
      capacity_kept = judged.capacity_kept ∙ clear.capacity_kept;
      lent_kept = judged.lent_kept ∙ clear.lent_kept;
    }

pub returns-else-eq : goal.returns-else-eq
returns-else-eq g c =
    let parts = c.in_ok-parts.ensures in
    let clear = c.clear.ensures in
    record {
      compared = by_header _ _ _ _ _ _ _ _ _ _ _ _ parts (omega (arith, c.limit.ensures, c.fact_limit.ensures)) (λ e. both_ways c.eq.result c.if-eq.false ((slice_eq-Decides Decides-eqb _ _ _ c.eq.ensures).1 e)) clear.empty;
      limit_kept = clear.limit_kept;
      capacity_kept = clear.capacity_kept;
      lent_kept = clear.lent_kept;
    }
