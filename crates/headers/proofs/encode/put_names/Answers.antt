use Rattle.std.proofs.Common.{◌+◌, length, ap, ◌∙◌, arith}
use Rattle.headers.specs.Output.{laid}
use Rattle.headers.proofs.Listing.{lines_from, next_length, next_laid}
use Rattle.headers.proofs.encode.put_names.Goals as goal

pub loop-name-preserved : goal.loop-name-preserved
loop-name-preserved g c =
    let i = c.loop-name.invariant in
    let items = g.N.AsSlice.items in let names = c.args.names.now in
    let at = c.loop-name.name-index in
    let n = next_length items names at c.name-item.result c.as_slice-bytes.result.now c.loop-name-test.true c.name-item.is c.as_slice-bytes.ensures in (
      ap (λ o. laid o (c.loop-name.to + (length c.as_slice-bytes.result.now + 1)) (lines_from items names (at + 1))) c.put_line.ensures
          ∙ (next_laid items names at c.name-item.result c.as_slice-bytes.result.now c.loop-name-test.true c.name-item.is c.as_slice-bytes.ensures c.loop-name.out c.loop-name.to (omega (arith, i.1, c.requires, c.loop-name.auto.out)) ∙ i.0),
      omega (arith, i.1, n),
    )
