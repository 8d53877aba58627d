use Rattle.std.proofs.Common.{sym, ap, ◌∙◌}
use Rattle.matching.proofs.Turns.{went_over, stays}
use Rattle.matching.proofs.judge.judge_part.Goals as goal

pub returns : goal.returns
returns g c =
    let s = g.S.MarkStore in
    let goes = c.keep_entries.ensures.gone in
    let kept = stays (λ j. j.base) (λ j. s.held j.store.now) (λ j. s.limit j.store.now) (λ j. s.capacity j.store.now) (λ j. s.lent j.store.now) (λ j. j.store.ghost_name) _ _ _ _ _ goes in
    let back = c.store-1.given.1 (sym kept.name_kept) in
    record {
      went = rw back (went_over (λ j. j.base) (λ j. s.held j.store.now) (λ j. s.limit j.store.now) (λ j. s.capacity j.store.now) (λ j. s.lent j.store.now) (λ j. j.store.ghost_name) _ _ _ _ (λ j. s.room j.store.now) goes c.requires.empty c.requires.wide);
      limit_kept = ap s.limit back ∙ kept.limit_kept;
      capacity_kept = ap s.capacity back ∙ kept.capacity_kept;
      lent_kept = ap s.lent back ∙ kept.lent_kept;
    }
