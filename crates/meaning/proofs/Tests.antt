-- Tests and what they tell; the least number that passes a test.
use Rattle.std.proofs.Common.{◌≡◌, ℕ, zero, suc, ◌<◌, Bool, true, false, not, ◌&&◌, ◌||◌, T, eqb, ltb, ◌⊎◌, refl, subst, inl, inr, arith}
use native.Mathlib.Decide.{dec_lt}
use Rattle.std.proofs.lemmas.Bool.Decides.{Decides-and, Decides-or, Decides-not, Decides-eqb, Decides-ltb}
use Rattle.std.proofs.lemmas.Float.{T_from_true}
use Rattle.calculus.specs.Tests.{Decides}

pub is_true : (b : Bool) → T b → b ≡ true
is_true true h = refl
is_true false h = elim h [ ]

pub is_false : (b : Bool) → ¬ T b → b ≡ false
is_false true h = absurd (h tt)
is_false false h = refl

-- The library tells the same of a test by an equation, and has the laws.
pub given : (b : Bool) {P : Type 0} → (b ≡ true → P) × (P → b ≡ true) → Decides b P
given b d = record { out = λ t. d.0 (is_true b t); back = λ p. T_from_true b (d.1 p) }

shown : (b : Bool) {P : Type 0} → Decides b P → (b ≡ true → P) × (P → b ≡ true)
shown b d = (λ e. d.out (T_from_true b e), λ p. is_true b (d.back p))

pub itself : (b : Bool) → Decides b (T b)
itself b = record { out = λ h. h; back = λ h. h }

pub both : {a b : Bool} {P Q : Type 0} → Decides a P → Decides b Q → Decides (a && b) (P × Q)
both {a} {b} u v = given (a && b) (Decides-and a b (shown a u) (shown b v))

pub either : {a b : Bool} {P Q : Type 0} → Decides a P → Decides b Q → Decides (a || b) (P ⊎ Q)
either {a} {b} u v = given (a || b) (Decides-or a b (shown a u) (shown b v))

pub never : {a : Bool} {P : Type 0} → Decides a P → Decides (not a) (¬ P)
never {a} u = given (not a) (Decides-not a (shown a u))

pub same : (m n : ℕ) → Decides (eqb m n) (m ≡ n)
same m n = given (eqb m n) (Decides-eqb m n)

pub below : (m n : ℕ) → Decides (ltb m n) (m < n)
below m n = given (ltb m n) (Decides-ltb m n)

pub decide : (b : Bool) → T b ⊎ (¬ T b)
decide true = inl tt
decide false = inr (λ h. h)

-- The least number below m that passes f, or that none does.
abbrev pub Least : (ℕ → Bool) → ℕ → Type 0
Least f m = (b : ℕ) × (b < m) × T (f b) × ((c : ℕ) → c < b → ¬ T (f c))

abbrev pub None : (ℕ → Bool) → ℕ → Type 0
None f m = (b : ℕ) → b < m → ¬ T (f b)

least_more : (f : ℕ → Bool) (m : ℕ) → Least f m ⊎ None f m → T (f m) ⊎ (¬ T (f m)) → Least f (suc m) ⊎ None f (suc m)
least_more f m (inl h) d = inl (h.0, omega arith, h.2, h.3)
least_more f m (inr h) (inl t) = inl (m, omega arith, t, h)
least_more f m (inr h) (inr t) = inr (λ b l u. elim (dec_lt b m) [
  | yes g ↦ h b g u
  | no g ↦ let e : b ≡ m = omega arith in t (subst (λ x. T (f x)) e u)
])

pub least : (f : ℕ → Bool) (m : ℕ) → Least f m ⊎ None f m
least f zero = inr (λ b l u. omega arith)
least f (suc m) = least_more f m (least f m) (decide (f m))

abbrev isInr : {A B : Type 0} → A ⊎ B → Bool
isInr (inl h) = false
isInr (inr h) = true

isInr_decides : (f : ℕ → Bool) (m : ℕ) (o : Least f m ⊎ None f m) → Decides (isInr o) (None f m)
isInr_decides f m (inl h) = record { out = λ g. absurd g; back = λ g. g h.0 h.1 h.2 }
isInr_decides f m (inr h) = record { out = λ g. h; back = λ g. tt }

pub none_below : (ℕ → Bool) → ℕ → Bool
none_below f m = isInr (least f m)

pub none_decides : (f : ℕ → Bool) (m : ℕ) → Decides (none_below f m) (None f m)
unfolding none_below
none_decides f m = isInr_decides f m (least f m)
