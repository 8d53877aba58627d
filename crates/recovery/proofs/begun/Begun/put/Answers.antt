use Rattle.std.proofs.Common.{◌≡◌, ◌+◌, length, sym, refl, ap, ◌∙◌, leb, ltb, arith}
use Rattle.std.proofs.lemmas.Bool.{and_parts, leb-true}
use Rattle.headers.specs.Output.{laid}
use Rattle.recovery.proofs.begun.Begun.put.Goals as goal

pub returns-clause-cases : goal.returns-clause-cases
returns-clause-cases c =
    let o = c.args.self.now.out.now in let at = c.args.self.now.at in
    let room = sym c.if-not-fits.ensures in
    let low = leb-true (at + 14) (length o) (and_parts (leb (at + 14) (length o)) (ltb (at + 14) 4294967296) room).0 in
    let size : length c.entry_bytes.result ≡ 14 = ap length c.entry_bytes.ensures in
    record { room = room; next' = refl; bytes = c.lay.ensures.written (omega (arith, size, low)) ∙ ap (laid o at) c.entry_bytes.ensures }
