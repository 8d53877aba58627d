use Rattle.std.proofs.Common.{is_some, ap, ◌∙◌}
use Rattle.rules.specs.Forms.{fields_of_form}
use Rattle.headers.specs.Records.{known_letter}
use Rattle.headers.proofs.record.is_known.Goals as goal

pub returns : goal.returns
unfolding known_letter
returns c = c.is_some.ensures ∙ ap is_some (c.field_kinds.ensures ∙ ap fields_of_form c.from.ensures)
