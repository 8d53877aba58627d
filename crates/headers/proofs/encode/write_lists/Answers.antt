use Rattle.std.proofs.Common.{map, leb, ltb, length, arith}
use Rattle.std.proofs.lemmas.Bool.{and_parts, leb-true}
use Rattle.std.proofs.lemmas.Result.{err_from_is_err_and}
use Rattle.headers.specs.Bytes.{joined}
use Rattle.headers.specs.Names.{line}
use Rattle.headers.specs.Records.{record_bytes}
use Rattle.headers.proofs.Laying.{laid_four, joined_length, wrote, kept}
use Rattle.headers.proofs.Tests.{found}
use Rattle.headers.proofs.encode.write_lists.Goals as goal

pub returns-in_err-n : goal.returns-in_err-n
returns-in_err-n g c =
    let items = g.N.AsSlice.items in let a = c.args in let e = c.in_err-n.ensures in
    let x = found _ _ _ _ c.in_ok-x.ensures.ok_part c.names_size.ensures in
    let k = found _ _ _ _ c.in_ok-c.ensures.ok_part c.names_size-2.ensures in
    let v = found _ _ _ _ c.in_ok-v.ensures.ok_part c.names_size-3.ensures in
    let p = err_from_is_err_and c.from_residual-in_err-n.result c.from_residual-in_err-n.ensures.1 in
    rw (p.1, p.2) (kept (joined line (map items a.individuals.now)) (joined line (map items a.classes.now)) (joined line (map items a.roles.now)) a.statements.now
    c.in_ok-x.x c.in_ok-c.c c.in_ok-v.v x.0 k.0 v.0 a.out.now _ _ e.0 e.1 e.2)

pub returns : goal.returns
returns g c =
    let items = g.N.AsSlice.items in let a = c.args in let e = c.in_ok-n.ensures in
    let x = joined line (map items a.individuals.now) in let k = joined line (map items a.classes.now) in let v = joined line (map items a.roles.now) in
    let ss = a.statements.now in
    let ex = found _ _ _ _ c.in_ok-x.ensures.ok_part c.names_size.ensures in
    let ek = found _ _ _ _ c.in_ok-c.ensures.ok_part c.names_size-2.ensures in
    let ev = found _ _ _ _ c.in_ok-v.ensures.ok_part c.names_size-3.ensures in
    let p = c.put_front.new.out in
    let two = c.put_names-second.ensures.end in let three = c.put_names-third.ensures.end in let four = c.put_names-fourth.ensures.end in
    let room = leb-true c.in_ok-n.n (length a.out.now) (and_parts (leb c.in_ok-n.n (length a.out.now)) (ltb c.in_ok-n.n 4294967296) e.1).0 in
    let q = laid_four p c.put_names-second.new.out c.put_names-third.new.out c.put_names-fourth.new.out c.put_records.new.out 32 c.put_names-second.result c.put_names-third.result c.put_names-fourth.result
    x k v (joined record_bytes ss) c.put_names-second.ensures.bytes c.put_names-third.ensures.bytes c.put_names-fourth.ensures.bytes c.put_records.ensures two three four
    (omega (arith, two, three, four, joined_length ss, ex.0, ek.0, ev.0, e.0, room, c.put_front.auto.out)) in
    wrote x k v ss c.in_ok-x.x c.in_ok-c.c c.in_ok-v.v ex.0 ek.0 ev.0 a.out.now p c.put_records.new.out c.in_ok-n.n e.0 e.1 e.2 q
