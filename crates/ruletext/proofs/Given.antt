-- What a value that may be missing gave, or the refusal in its place.
use Rattle.std.proofs.Common.{◌≡◌, Some, None, Ok, Err, Option, refl}
use Rattle.std.specs.Option.{ok_or}
use Rattle.rules.specs.declared.refusals.Refusal.{Refusal}
use Rattle.ruletext.specs.Outcome.{known}

pub given : {X : Type 0} (o : Option X) (q : Refusal) (x : X) → Ok x ≡ ok_or o q → o ≡ Some x
given None q x h = cc
given (Some y) q x h = cc

pub record Missing (X : Type 0) (o : Option X) (q e : Refusal) : Type 0 where
  pub none : o ≡ None
  pub is : e ≡ q

pub missing : {X : Type 0} (o : Option X) (q e : Refusal) → Err e ≡ ok_or o q → Missing X o q e
missing None q e h = record { none = refl; is = cc }
missing (Some y) q e h = record { none = cc; is = cc }

pub known_is : {X : Type 0} (o : Option X) (q : Refusal) → ok_or o q ≡ known o q
known_is None q = refl
known_is (Some x) q = refl
