use Rattle.std.proofs.Common.{rules, tests, refl}
use Rattle.std.specs.Str.{bytes_eq}
use Rattle.std.proofs.lemmas.Iterator.Consumers.{YieldsList-from_first}
use Rattle.std.proofs.lemmas.Iterator.Search.{any_from_yields_List}
use Rattle.headers.specs.Names.{lines}
use Rattle.headers.proofs.Lines.{same_bytes}
use Rattle.headers.proofs.names.is_in.Goals as goal

pub returns : goal.returns
returns c =
    any_from_yields_List (bytes_eq c.args.name.now) c.any.new.self _ c.any.result c.any.ensures.ran (YieldsList-from_first (λ x. x.now) (λ s. lines s.rest.now) (lines c.args.part.now) refl) (λ x b q k. search (rules, tests, same_bytes))
