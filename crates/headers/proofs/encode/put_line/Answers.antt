use Rattle.std.proofs.Common.{◌+◌, [], ◌∷◌, length, refl, arith}
use Rattle.headers.proofs.Laying.{laid_two}
use Rattle.headers.proofs.encode.put_line.Goals as goal

pub returns : goal.returns
returns c =
    let x = c.args.name.now in
    laid_two c.args.out.now c.lay.new.out c.lay-2.new.out c.args.at (c.args.at + length x) x (10 ∷ []) (c.lay.ensures.written (omega (arith, c.requires))) (c.lay-2.ensures.written (omega (arith, c.requires, c.lay.auto.out))) refl (omega (arith, c.requires))
