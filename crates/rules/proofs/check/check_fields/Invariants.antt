use Rattle.std.proofs.Common.{◌≡◌, drop}
use Rattle.rules.specs.Fits.{statements_refusal}
use Rattle.rules.proofs.check.check_fields.Given as goal

abbrev pub invariant-loop-place : goal.invariant-loop-place
invariant-loop-place l =
    let refused = statements_refusal l.counts.individuals l.counts.classes l.counts.roles in
    refused 0 l.statements ≡ refused l.place (drop l.place l.statements)
