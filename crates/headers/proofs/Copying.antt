-- Statements copied one by one.
use Rattle.std.proofs.Common.{◌≡◌, ℕ, ◌+◌, ◌<◌, ◌≤◌, List, [], ◌∷◌, ◌++◌, map, length, get_or, take, drop, set, Some, None, sym, ap, ◌∙◌, append_assoc, arith, length-drop, length-take}
use Rattle.std.proofs.lemmas.List.{take_more, drop_more, at_drop_more, drop-drop, get_or-drop, set_at}
use Rattle.rules.specs.declared.statements.Statement.{Statement}
use Rattle.headers.specs.declared.record.Record.{Record}
use Rattle.headers.specs.Records.{record_in, stated, keep, stated_by}
use Rattle.headers.specs.Views.{Copied}

-- the statements that pieces give
abbrev pub given_by : List (List ℕ) → List Statement
given_by xs = stated_by (map record_in xs)

module _ (xs : List (List ℕ)) (i : ℕ) (d : List ℕ) (x : Record) (l : i < length xs) (p : x ≡ record_in (get_or xs i d)) where
  given_here : given_by (drop i xs) ≡ keep (stated x) (given_by (drop (i + 1) xs))
  given_here = rw p (at_drop_more given_by xs i d l)

  pub given_none : None ≡ stated x → given_by (drop i xs) ≡ given_by (drop (i + 1) xs)
  given_none e = given_here ∙ ap (λ o. keep o (given_by (drop (i + 1) xs))) (sym e)

  pub given_some : (s : Statement) → Some s ≡ stated x → given_by (drop i xs) ≡ s ∷ given_by (drop (i + 1) xs)
  given_some s e = given_here ∙ ap (λ o. keep o (given_by (drop (i + 1) xs))) (sym e)

module _ (ss memory m rest : List Statement) (n : ℕ) (s : Statement) (e : drop n ss ≡ s ∷ rest) (l : n ≤ length ss) (h : n ≤ length memory) (i : m ≡ take n ss ++ drop n memory) where
  longer : n < length ss
  longer = omega (arith, ap length e, length-drop n ss)

  here : get_or ss n s ≡ s
  here =
      let z : n + 0 ≡ n = omega arith in
      ap (λ k. get_or ss k s) (sym z) ∙ (sym (get_or-drop n ss 0 s) ∙ ap (λ (v : List Statement). get_or v 0 s) e)

  pub next_rest : drop (n + 1) ss ≡ rest
  next_rest = sym (drop-drop 1 n ss) ∙ ap (drop 1) e

  pub next_length : n + 1 ≤ length ss
  next_length = omega (arith, longer)

  pub next_memory : n < length memory → set m n s ≡ take (n + 1) ss ++ drop (n + 1) memory
  next_memory r =
      ap (λ (v : List Statement). set v n s) (i ∙ ap (λ (v : List Statement). take n ss ++ v) (drop_more memory n s r))
      ∙ (set_at (take n ss) (get_or memory n s) (drop (n + 1) memory) s n (omega (arith, length-take n ss, l))
      ∙ (sym (append_assoc (take n ss) (s ∷ []) (drop (n + 1) memory))
      ∙ ap (λ (v : List Statement). v ++ drop (n + 1) memory) (ap (λ (y : Statement). take n ss ++ (y ∷ [])) (sym here) ∙ sym (take_more ss n s longer))))

pub ended : (ss before after : List Statement) (n : ℕ) → drop n ss ≡ [] → n ≤ length ss → n ≤ length before → after ≡ take n ss ++ drop n before → Copied before after ss n
ended ss before after n d l h i =
    let z : length (drop n ss) ≡ 0 = ap length d in
    record { some = l; room = h; most = λ y. absurd (omega (arith, y, z, length-drop n ss)); statements = i }
