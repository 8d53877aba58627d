-- The role steps, each with its statement at hand.
use Rattle.std.proofs.Common.{ℕ, List}
use Rattle.marks.specs.Trees.{All, Grounded}
use Rattle.marks.proofs.Folds.{fold, trees_closed}
use Rattle.rules.specs.Places.{At}
use Rattle.rules.specs.declared.statements.Statement.{Statement}
use Rattle.roles.specs.Roles.{Gives, RoleStep, RoleTree}
use Rattle.roles.specs.declared.facts.RoleFact.{RoleFact}

-- A step from facts with trees gives a fact with a tree.
pub role_tree : {ss : List Statement} {p : ℕ} {s : Statement} {fs : List RoleFact} {f : RoleFact} → At ss p s → Gives s fs f → All (RoleTree ss) fs → RoleTree ss f
role_tree {ss} {p} {s} {fs} {f} a g h = (trees_closed (Grounded (RoleStep ss))).leads fs f (record { given_by = p; takes = record { statement = s; at = a; gives = g } }) h

-- What every step keeps holds of every fact with a tree.
pub role_fold : {ss : List Statement} (P : RoleFact → Type 0) → ((p : ℕ) (s : Statement) (fs : List RoleFact) (f : RoleFact) → At ss p s → Gives s fs f → All P fs → P f) → {f : RoleFact} → RoleTree ss f → P f
role_fold P keeps t = fold {P = P} (record { leads = λ fs f s h. keeps s.given_by s.takes.statement fs f s.takes.at s.takes.gives h }) t
