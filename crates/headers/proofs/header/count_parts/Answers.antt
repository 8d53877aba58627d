use Rattle.std.proofs.Common.{sym, refl}
use Rattle.headers.proofs.Judging.{held_from}
use Rattle.headers.proofs.Tests.{found}
use Rattle.headers.proofs.header.count_parts.Goals as goal

pub returns : goal.returns
returns c =
    let x = found _ _ _ _ c.in_ok-individuals.ensures.ok_part c.count_names.ensures in
    let k = found _ _ _ _ c.in_ok-classes.ensures.ok_part c.count_names-2.ensures in
    let v = found _ _ _ _ c.in_ok-roles.ensures.ok_part c.count_names-3.ensures in
    held_from c.args.parts.now _ x.0 k.0 v.0 (sym c.if-not-are_records.ensures) x.1 k.1 v.1 refl
