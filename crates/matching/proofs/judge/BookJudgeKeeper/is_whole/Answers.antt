use Rattle.std.proofs.Common.{sym}
use Rattle.matching.proofs.Judging.{if_none, if_some, lacking}
use Rattle.matching.proofs.judge.BookJudgeKeeper.is_whole.Goals as goal

pub returns : goal.returns
returns g c =
    let same = sym c.over.ensures.rules in record {
      whole = rw same (if_none _ _ _ _ c.missing.ensures c.is_none.ensures);
      lacks = rw same (if_some _ _ _ _ c.missing.ensures c.is_none.ensures (λ x m. lacking _ _ x.ground x.number m));
    }
