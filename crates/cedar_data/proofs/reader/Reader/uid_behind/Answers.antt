-- A path before a string is the type of an entity.
use Rattle.std.proofs.Common.{ap, subst}
use Rattle.std.specs.Rc.{rc_str_bytes}
use Rattle.cedar_language.specs.Tree.{Lit, Entity}
use Rattle.cedar_grammar.specs.Grammar.{inner}
use Rattle.cedar_data.specs.Data.{ReadsPathTo}
use Rattle.cedar_data.proofs.Rules.{entity_read}
use Rattle.cedar_data.proofs.reader.Reader.uid_behind.Goals as goal

pub returns-in-EntityType : goal.returns-in-EntityType
returns-in-EntityType c = λ n names.
    let path = subst (λ p. ReadsPathTo c.args.first.now c.args.self.now p c.path.new.self) c.in-EntityType.is c.in_ok-path.ensures in
    entity_read c.args.first.now c.args.self.now (inner names n) n c.in-EntityType.entity_type c.path.new.self c.string.new.self c.in_ok-id-in-EntityType.ensures.raw (rc_str_bytes c.in_ok-id-in-EntityType.id) _ path c.in_ok-id-in-EntityType.ensures.takes c.in_ok-id-in-EntityType.ensures.is
    (ap (λ u. Lit (Entity u)) c.in_ok-uid_of-in-EntityType.ensures)
