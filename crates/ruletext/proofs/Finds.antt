-- A name is found among the words that declare names as among the names.
use Rattle.std.proofs.Common.{◌≡◌, ℕ, ◌+◌, Bool, cond, not, List, [], ◌∷◌, map, position, refl, ap}
use lib.ListN.{length-map}
use Rattle.std.specs.List.{prefix_len}
use Rattle.std.specs.Str.{bytes_eq}
use Rattle.reader.specs.declared.reader.Word.{Word}
use Rattle.ruletext.specs.Outcome.{Name, found}
use Rattle.ruletext.specs.Reading.{spelt}

prefix_spelt : (test : Name → Bool) (ws : List Word) → prefix_len test (map spelt ws) ≡ prefix_len (λ w. test (spelt w)) ws
prefix_spelt test [] = refl
prefix_spelt test (w ∷ ws) = ap (λ (n : ℕ). cond (test (spelt w)) (1 + n) 0) (prefix_spelt test ws)

pub found_spelt : (x : List ℕ) (ws : List Word) → found x (map spelt ws) ≡ position (λ w. bytes_eq w.bytes.now x) ws
found_spelt x ws = rw (prefix_spelt (λ y. not (bytes_eq y.spelt x)) ws, length-map ws spelt)
