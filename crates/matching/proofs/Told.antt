-- What entries tell.
use Rattle.std.proofs.Common.{◌≡◌, ℕ, sym, refl, ap, ◌∙◌, arith}
use Rattle.calculus.specs.Numbers.{Inside}
use Rattle.calculus.specs.TermNumbers.{first_same, second_same}
use Rattle.calculus.specs.declared.terms.Ground.{Ground}
use Rattle.calculus.specs.declared.terms.Fact.{Fact}
use Rattle.calculus.specs.declared.terms.Fact.TheVariants.{Instance, SelfPair, Pair}
use Rattle.recovery.specs.declared.entry.Entry.{Entry}
use Rattle.matching.specs.Complete.{entry_of}
use Rattle.matching.specs.Entries.{ToldOnce, ground_in}

-- an entry's parts, one by one
letters : (e d : Entry) → e ≡ d → e.letter ≡ d.letter
letters e d h = ap (λ (x : Entry). x.letter) h

firsts : (e d : Entry) → e ≡ d → e.first ≡ d.first
firsts e d h = ap (λ (x : Entry). x.first) h

roles : (e d : Entry) → e ≡ d → e.role ≡ d.role
roles e d h = ap (λ (x : Entry). x.role) h

seconds : (e d : Entry) → e ≡ d → e.second ≡ d.second
seconds e d h = ap (λ (x : Entry). x.second) h

-- two facts with one entry are the same
told_ground : (n : ℕ) (f : Fact) (why : Ground) → ground_in (entry_of n f why) ≡ why
told_ground n (Instance x y) why = refl
told_ground n (SelfPair x v) why = refl
told_ground n (Pair x v y) why = refl

facts_same : (n k r : ℕ) (f g : Fact) (why wherefore : Ground) → Inside n k r f → Inside n k r g → entry_of n f why ≡ entry_of n g wherefore → f ≡ g
facts_same n k r (Instance x y) (Instance z w) why wherefore i j h =
    let a = first_same n x z i.0 j.0 (firsts _ _ h) in let b = second_same n k y w i.1 j.1 (seconds _ _ h) in cc
facts_same n k r (Instance x y) (SelfPair z v) why wherefore i j h = absurd (let q = letters _ _ h in omega arith)
facts_same n k r (Instance x y) (Pair z v w) why wherefore i j h = absurd (let q = letters _ _ h in omega arith)
facts_same n k r (SelfPair x v) (Instance z w) why wherefore i j h = absurd (let q = letters _ _ h in omega arith)
facts_same n k r (SelfPair x v) (SelfPair z w) why wherefore i j h = let a = first_same n x z i.0 j.0 (firsts _ _ h) in let b = roles _ _ h in cc
facts_same n k r (SelfPair x v) (Pair z w y) why wherefore i j h = absurd (let q = letters _ _ h in omega arith)
facts_same n k r (Pair x v y) (Instance z w) why wherefore i j h = absurd (let q = letters _ _ h in omega arith)
facts_same n k r (Pair x v y) (SelfPair z w) why wherefore i j h = absurd (let q = letters _ _ h in omega arith)
facts_same n k r (Pair x v y) (Pair z w u) why wherefore i j h =
    let a = first_same n x z i.0 j.0 (firsts _ _ h) in let b = roles _ _ h in let c = first_same n y u i.2 j.2 (seconds _ _ h) in cc

pub told_once : ToldOnce
told_once n k r e f g why wherefore t s =
    let h : entry_of n f why ≡ entry_of n g wherefore = sym t.is ∙ s.is in
    (facts_same n k r f g why wherefore t.inside s.inside h, sym (told_ground n f why) ∙ ap ground_in h ∙ told_ground n g wherefore)
