use Rattle.std.proofs.Common.{◌≡◌, ◌+◌, ◌-◌, ◌*◌, length, sym, refl, ap, ◌∙◌, arith}
use Rattle.std.proofs.lemmas.List.{take_all}
use Rattle.headers.specs.Bytes.{joined}
use Rattle.headers.specs.Output.{laid}
use Rattle.headers.proofs.Laying.{laid_none}
use Rattle.recovery.specs.Begun.{entry_bytes, two_pairs}
use Rattle.recovery.proofs.Filling.{begun_bytes_are, begun_at_is, put_more, standing, closed_size, closed_bytes, closed, fits_parts}
use Rattle.recovery.proofs.write.fill.Goals as goal

pub loop-entry-init : goal.loop-entry-init
loop-entry-init c =
    let e = c.begin-file.ensures in
    let at = begun_at_is c.args.out.now c.args.header.now c.args.entries.now c.requires _ e.at in
    (refl, e.header, omega (arith, at), sym (laid_none c.begin-file.result.out.now (16 + length c.args.header.now)))

pub loop-entry-preserved : goal.loop-entry-preserved
loop-entry-preserved c =
    let i = c.loop-entry.invariant in
    let e = c.put.ensures in
    let o = c.args.out.now in let h = c.args.header.now in let es = c.args.entries.now in
    let b = c.begin-file.result.out.now in
    let m = put_more o h es c.requires b c.loop-entry.file.out.now c.loop-entry.entry-index c.loop-entry.file.at (begun_bytes_are o h es c.requires b c.begin-file.ensures.bytes) c.loop-entry.auto.entry-index-end i.2 i.3
    c.put.new.self.out.now c.put.new.self.at _ c.put.result (λ _. c.put.new.self ≡ c.loop-entry.file) c.loop-entry-test.true e.cases in
    (e.lent ∙ i.0, e.header ∙ i.1, m.0, m.1)

pub returns : goal.returns
returns c =
    let i = c.loop-entry.invariant in
    let o = c.args.out.now in let h = c.args.header.now in let es = c.args.entries.now in
    let b = c.begin-file.result.out.now in
    let eb = begun_bytes_are o h es c.requires b c.begin-file.ensures.bytes in
    let n : c.loop-entry.entry-index ≡ length c.args.entries.now = omega (arith, c.loop-entry.auto.entry-index-end, c.loop-entry-test.false) in
    let t = take_all c.loop-entry.entry-index es c.loop-entry-test.false in
    let f = i.3 ∙ ap (λ xs. laid b (16 + length h) (joined entry_bytes xs)) t in
    let s = standing o h es c.requires b c.loop-entry.file.out.now c.loop-entry.entry-index c.loop-entry.file.at eb c.loop-entry.auto.entry-index-end i.2 i.3 c.loop-entry.file.header i.1 in
    record {
      size = closed_size c.loop-entry.file.out.now c.loop-entry.file.at c.loop-entry.file.header c.close.result s c.close.ensures.size ∙ omega (arith, i.2, n);
      bytes = closed o b c.loop-entry.file.out.now _ h es (c.loop-entry.file.at - (16 + c.loop-entry.file.header)) (fits_parts o (16 + length h + 14 * length es) c.requires).0 eb f (omega (arith, i.1, i.2, n))
          (c.out-1.given.1.1 (sym (i.0 ∙ c.begin-file.ensures.lent)) ∙ (closed_bytes c.loop-entry.file.out.now _ c.loop-entry.file.at c.loop-entry.file.header s c.close.ensures.bytes ∙ ap (λ k. laid c.loop-entry.file.out.now 0 (two_pairs k (c.loop-entry.file.at - (16 + c.loop-entry.file.header)))) i.1));
    }
