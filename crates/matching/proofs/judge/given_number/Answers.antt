use Rattle.matching.proofs.Judging.{given_if}
use Rattle.matching.proofs.judge.given_number.Goals as goal

pub returns : goal.returns
returns g c = given_if _ _ _ _ _ _ _ _ _ c.in_ok-told.ensures.told c.in_ok-number.ensures.told.1 _ c.gives.ensures _ c.then_some.ensures
