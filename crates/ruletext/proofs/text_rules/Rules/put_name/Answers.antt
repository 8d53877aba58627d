use Rattle.std.proofs.Common.{vec_items, vec_len, refl, arith}
use Rattle.ruletext.specs.Reading.{contents, spelt}
use Rattle.ruletext.proofs.Lined.{long}
use Rattle.ruletext.proofs.Puts.{one_more, put_individual, put_class, put_role, room_individual, room_class, room_role}
use Rattle.ruletext.proofs.text_rules.Rules.put_name.Goals as goal

pub push_reserved-requires : goal.push_reserved-requires
push_reserved-requires c = omega (arith, room_individual (contents c.args.self.now) c.args.kind _ c.in-Individual.is c.requires (long (vec_items c.args.self.now.individuals) _ (vec_len c.args.self.now.individuals) refl c.args.self.now.individuals.ok.0))

pub invariant_of-self : goal.invariant_of-self
invariant_of-self c =
    let room = room_individual (contents c.args.self.now) c.args.kind _ c.in-Individual.is c.requires (long (vec_items c.args.self.now.individuals) _ (vec_len c.args.self.now.individuals) refl c.args.self.now.individuals.ok.0) in
    record { few_individuals = omega arith; few_classes = omega arith; few_roles = omega arith; few_statements = omega arith; each_line = omega arith; room_individuals = omega arith; room_classes = omega arith; room_roles = omega arith; room_statements = omega arith; room_lines = omega arith }

pub returns-in-Individual : goal.returns-in-Individual
returns-in-Individual c = put_individual (contents c.args.self.now) _ c.args.kind (spelt c.args.word) c.in-Individual.is (one_more (vec_items c.push_reserved.new.self) (vec_items c.args.self.now.individuals) c.args.word c.push_reserved.ensures.items)

pub push_reserved-requires-in-Class : goal.push_reserved-requires-in-Class
push_reserved-requires-in-Class c = omega (arith, room_class (contents c.args.self.now) c.args.kind _ c.in-Class.is c.requires (long (vec_items c.args.self.now.classes) _ (vec_len c.args.self.now.classes) refl c.args.self.now.classes.ok.0))

pub invariant_of-self-in-Class : goal.invariant_of-self-in-Class
invariant_of-self-in-Class c =
    let room = room_class (contents c.args.self.now) c.args.kind _ c.in-Class.is c.requires (long (vec_items c.args.self.now.classes) _ (vec_len c.args.self.now.classes) refl c.args.self.now.classes.ok.0) in
    record { few_individuals = omega arith; few_classes = omega arith; few_roles = omega arith; few_statements = omega arith; each_line = omega arith; room_individuals = omega arith; room_classes = omega arith; room_roles = omega arith; room_statements = omega arith; room_lines = omega arith }

pub returns-in-Class : goal.returns-in-Class
returns-in-Class c = put_class (contents c.args.self.now) _ c.args.kind (spelt c.args.word) c.in-Class.is (one_more (vec_items c.push_reserved-in-Class.new.self) (vec_items c.args.self.now.classes) c.args.word c.push_reserved-in-Class.ensures.items)

pub push_reserved-requires-in-Role : goal.push_reserved-requires-in-Role
push_reserved-requires-in-Role c = omega (arith, room_role (contents c.args.self.now) c.args.kind _ c.in-Role.is c.requires (long (vec_items c.args.self.now.roles) _ (vec_len c.args.self.now.roles) refl c.args.self.now.roles.ok.0))

pub invariant_of-self-in-Role : goal.invariant_of-self-in-Role
invariant_of-self-in-Role c =
    let room = room_role (contents c.args.self.now) c.args.kind _ c.in-Role.is c.requires (long (vec_items c.args.self.now.roles) _ (vec_len c.args.self.now.roles) refl c.args.self.now.roles.ok.0) in
    record { few_individuals = omega arith; few_classes = omega arith; few_roles = omega arith; few_statements = omega arith; each_line = omega arith; room_individuals = omega arith; room_classes = omega arith; room_roles = omega arith; room_statements = omega arith; room_lines = omega arith }

pub returns-in-Role : goal.returns-in-Role
returns-in-Role c = put_role (contents c.args.self.now) _ c.args.kind (spelt c.args.word) c.in-Role.is (one_more (vec_items c.push_reserved-in-Role.new.self) (vec_items c.args.self.now.roles) c.args.word c.push_reserved-in-Role.ensures.items)
