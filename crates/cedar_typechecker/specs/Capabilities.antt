-- Capabilities in code, as the definition of typing has them.
use Rattle.std.specs.Prelude.{List, map}
use Rattle.std.specs.Rc.{rc_str_bytes}
use Rattle.cedar_trees.specs.Bare.{bare}
use Rattle.cedar_typing.specs.Capabilities as typing
use Rattle.cedar_typing.specs.Capabilities.{Capabilities, an_attribute, a_tag}
use Rattle.cedar_typechecker.specs.declared.capabilities.Capability.{Capability}
use Rattle.cedar_typechecker.specs.declared.capabilities.Capability.TheVariants.{Attribute, Tag}

abbrev pub capability_view : Capability → typing.Capability
capability_view (Attribute of attr) = an_attribute (bare of.value) (rc_str_bytes attr)
capability_view (Tag of key) = a_tag (bare of.value) (bare key.value)

abbrev pub capabilities_view : List Capability → Capabilities
capabilities_view cs = map capability_view cs
