-- Laws of values and sets.
use Rattle.std.proofs.Common.{◌≡◌, ◌↔◌, List, sym, ap, ◌∙◌}
use Rattle.std.specs.List.{Contains}
use Rattle.cedar_language.specs.Value.{Extension, Value, SetOf, ExtensionOf, Values}
use Rattle.cedar_language.specs.Order.{all_of, members}
use Rattle.cedar_language.specs.Sets.{SetsAreFinite}
use Rattle.cedar_values.specs.Laws.{SetsAreTheirMembers}
use Rattle.cedar_values.proofs.Sets.{is_rising, members_of}

all_of_inj : (s t : List Value) → all_of s ≡ all_of t → s ≡ t
all_of_inj s t e = sym (members_of s) ∙ ap members e ∙ members_of t

set_inj : (vs ws : Values) → SetOf vs ≡ SetOf ws → vs ≡ ws
set_inj vs ws e = cc

extension_inj : (e f : Extension) → ExtensionOf e ≡ ExtensionOf f → e ≡ f
extension_inj e f h = cc

itself : (t : List Value) (v : Value) → Contains t v ↔ Contains t v
itself t v = (λ h. h, λ h. h)

pub by_members : SetsAreFinite → SetsAreTheirMembers
by_members law s t h k f = all_of_inj s t (is_rising law s t h f ∙ sym (is_rising law t t k (itself t)))

pub same_sets : (s t : List Value) → SetOf (all_of s) ≡ SetOf (all_of t) → s ≡ t
same_sets s t e = all_of_inj s t (set_inj (all_of s) (all_of t) e)

pub same_extensions : (e f : Extension) → ExtensionOf e ≡ ExtensionOf f → e ≡ f
same_extensions = extension_inj
