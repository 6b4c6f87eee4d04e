-- What ties in the order of values is the same, and a set or an extension value is read back from its value.
use Rattle.std.proofs.Common.{ap}
use Rattle.cedar_language.specs.Value.{SetOf, ExtensionOf}
use Rattle.cedar_language.specs.Order.{all_of}
use Rattle.cedar_language.specs.OrderLaws.{same_is, is_same}
use Rattle.cedar_values.proofs.Sameness.{same_sets, same_extensions}
use Rattle.cedar_values.proofs.laws.equality_is_sameness.Goals as goal

pub returns-clause-values : goal.returns-clause-values
returns-clause-values c = λ v w. (same_is v w, is_same v w)

pub returns-clause-sets : goal.returns-clause-sets
returns-clause-sets c = λ s t. (λ h. same_sets s t (same_is _ _ h), λ e. is_same _ _ (ap (λ vs. SetOf (all_of vs)) e))

pub returns-clause-extension_values : goal.returns-clause-extension_values
returns-clause-extension_values c = λ e f. (λ h. same_extensions e f (same_is _ _ h), λ p. is_same _ _ (ap ExtensionOf p))

pub returns-clause-kinds : goal.returns-clause-kinds
returns-clause-kinds c = λ k l. (same_is _ _, is_same _ _)
