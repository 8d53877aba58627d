use Rattle.std.proofs.Common.{sym}
use Rattle.recovery.proofs.Filling.{wrote, kept}
use Rattle.recovery.proofs.write.write_recovery.Goals as goal

pub returns-then-not-fits : goal.returns-then-not-fits
returns-then-not-fits c = kept c.args.out.now c.args.header.now c.args.entries.now _ c.into.ensures (sym c.if-not-fits.ensures)

pub returns : goal.returns
returns c = wrote c.args.out.now c.args.header.now c.args.entries.now c.fill.new.out c.fill.result c.fill.ensures.size (sym c.if-not-fits.ensures) c.fill.ensures.bytes
