use Rattle.std.proofs.Common.{refl, ap, inl, inr}
use Rattle.std.proofs.lemmas.Result.{err_from_is_err_and, MatchResult-weaker}
use Rattle.headers.specs.Header.{encode}
use Rattle.headers.proofs.Laying.{written_as}
use Rattle.ruletext.proofs.One.{one_outcome}
use Rattle.intake.proofs.Turning.{listing_held, text_accepted}
use Rattle.intake.proofs.text.text_to_header.Goals as goal

pub returns-in_err-read : goal.returns-in_err-read
returns-in_err-read c =
    let p = err_from_is_err_and c.from_residual.result c.from_residual.ensures.1 in
    let q = c.in_err-read.ensures.exact in
    record {
      exact = rw (p.1, p.2) (inl (record { means = q.0; nothing_read = q.1; bytes = refl }));
      one = one_outcome c.args.text.now;
      accepted = text_accepted;
    }

pub returns : goal.returns
returns c =
    let m = c.in_ok-read.ensures.exact in
    let held = c.read.new.self in
    let same = ap encode (listing_held held _ _ _ _ c.as_slice.ensures.value c.as_slice-2.ensures.value c.as_slice-3.ensures.value c.as_slice-4.ensures.value) in
    let w = written_as c.write_header.result c.args.out.now c.write_header.new.out _ _ same c.write_header.ensures.bytes in
    record {
      exact = MatchResult-weaker c.write_header.result w (λ n h. record { means = m; wrote = h }) (λ e h. inr (record { means = m; kept = h }));
      one = one_outcome c.args.text.now;
      accepted = text_accepted;
    }
