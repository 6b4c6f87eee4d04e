-- The body of a link, as the world has it.
use Rattle.std.specs.Prelude.{option_map}
use Rattle.std.specs.Rc.{rc_str_bytes}
use Rattle.cedar_world.specs.Bodies as world
use Rattle.cedar_held.specs.declared.links.LinkBody.{LinkBody}

abbrev pub link_of : LinkBody → world.LinkBody
link_of b = record {
  template = rc_str_bytes b.template.now;
  id = rc_str_bytes b.id.now;
  bindings = record { principal = option_map (λ uid. uid.now) b.principal; resource = option_map (λ uid. uid.now) b.resource };
}
