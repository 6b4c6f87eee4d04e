-- A chain goes on from a value, and stops where something is missing.
use Rattle.std.proofs.Common.{◌≡◌, ◌∷◌, ◌∙◌, subst}
use Rattle.cedar_language.specs.Value.{EntityDoesNotExist, EntityAttrDoesNotExist, RecordAttrDoesNotExist}
use Rattle.cedar_language.specs.Operators.{path_from}
use Rattle.cedar_operators.specs.Lookups.{Shows}
use Rattle.cedar_operators.proofs.ByLookup.{path_goes_on, path_stops}
use Rattle.cedar_operators.proofs.lookups.find_further.Goals as goal

pub returns-in-Value : goal.returns-in-Value
returns-in-Value c = λ facts rest meant f h.
    path_goes_on facts c.args.attr.now rest c.in-Value.value.now meant (subst (Shows (λ o. path_from facts (c.args.attr.now ∷ rest) o ≡ meant)) c.in-Value.is h) c.find.result (c.find.ensures facts f)

pub returns-in_ok-still_unknown-in-Residual : goal.returns-in_ok-still_unknown-in-Residual
returns-in_ok-still_unknown-in-Residual c = λ facts rest meant f h. absurd (subst (Shows (λ o. path_from facts (c.args.attr.now ∷ rest) o ≡ meant)) c.in-Residual.is h)

pub returns-in-NoEntity : goal.returns-in-NoEntity
returns-in-NoEntity c = λ facts rest meant f h. path_stops facts rest EntityDoesNotExist ∙ subst (Shows (λ o. path_from facts (c.args.attr.now ∷ rest) o ≡ meant)) c.in-NoEntity.is h

pub returns-in-NoAttribute : goal.returns-in-NoAttribute
returns-in-NoAttribute c = λ facts rest meant f h. path_stops facts rest EntityAttrDoesNotExist ∙ subst (Shows (λ o. path_from facts (c.args.attr.now ∷ rest) o ≡ meant)) c.in-NoAttribute.is h

pub returns-in-NoKey : goal.returns-in-NoKey
returns-in-NoKey c = λ facts rest meant f h. path_stops facts rest RecordAttrDoesNotExist ∙ subst (Shows (λ o. path_from facts (c.args.attr.now ∷ rest) o ≡ meant)) c.in-NoKey.is h
