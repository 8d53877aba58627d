use Rattle.std.proofs.Common.{◌≡◌, ℕ, Bool, true, false, cond, eqb, List, [], ◌∷◌, sym, refl, ap, ◌∙◌, subst}
use Rattle.std.proofs.lemmas.Bool.{eqb-true, eqb-false}
use Rattle.reader.specs.Text.{onto, pieces}
use Rattle.reader.specs.Cut.{rejoin, Each, Lacks, LinesWhole}

-- A list that is not empty, with what rejoins to the text and no cut in it.
record Cut (cut : ℕ) (xs : List ℕ) (ps : List (List ℕ)) : Type 0 where
  first : List ℕ
  others : List (List ℕ)
  is : ps ≡ first ∷ others
  back : rejoin cut (first ∷ others) ≡ xs
  bare : Lacks cut first
  rest : Each (Lacks cut) others

rejoin_onto : (cut b : ℕ) (p : List ℕ) (ps : List (List ℕ)) → rejoin cut ((b ∷ p) ∷ ps) ≡ b ∷ rejoin cut (p ∷ ps)
rejoin_onto cut b p [] = refl
rejoin_onto cut b p (q ∷ qs) = refl

more : (cut b : ℕ) (bs : List ℕ) (ps : List (List ℕ)) → Cut cut bs ps → (t : Bool) → (t ≡ true → b ≡ cut) → (t ≡ false → b ≡ cut → ⊥)
    → Cut cut (b ∷ bs) (cond t ([] ∷ ps) (onto b ps))
unfolding onto
more cut b bs ps h true e n = record {
  first = [];
  others = h.first ∷ h.others;
  is = ap (λ (qs : List (List ℕ)). [] ∷ qs) h.is;
  back = ap (λ (ys : List ℕ). cut ∷ ys) h.back ∙ ap (λ (c : ℕ). c ∷ bs) (sym (e refl));
  bare = tt;
  rest = (h.bare, h.rest);
}
more cut b bs ps h false e n = record {
  first = b ∷ h.first;
  others = h.others;
  is = ap (onto b) h.is;
  back = rejoin_onto cut b h.first h.others ∙ ap (λ (ys : List ℕ). b ∷ ys) h.back;
  bare = (n refl, h.bare);
  rest = h.rest;
}

cuts : (cut : ℕ) (xs : List ℕ) → Cut cut xs (pieces cut xs)
unfolding pieces
cuts cut [] = record { first = []; others = []; is = refl; back = refl; bare = tt; rest = tt }
cuts cut (b ∷ bs) = more cut b bs (pieces cut bs) (cuts cut bs) (eqb b cut) (eqb-true b cut) (eqb-false b cut)

pub lines_whole : (text : List ℕ) → LinesWhole text
lines_whole text =
    let h = cuts 10 text in
    record {
      joined = ap (rejoin 10) h.is ∙ h.back;
      cut = subst (λ (ps : List (List ℕ)). Each (Lacks 10) ps) (sym h.is) (h.bare, h.rest);
    }
