-- What the iterators over ids of a response still give.
use Rattle.std.specs.Prelude.{List, ◌++◌, map}
use Rattle.std.specs.Map.{keys_of}
use Rattle.std.specs.Slice.Iter.{iter_rest}
use Rattle.cedar_language.specs.Uid.{Text}
use Rattle.cedar_evaluator.specs.Given.{Noted}
use Rattle.cedar_evaluator.specs.Holding.{has_erred}
use Rattle.cedar_evaluator.specs.Residuals.{erring_ids}
use Rattle.cedar_evaluator.specs.declared.ids.ErroredIds.{ErroredIds}
use Rattle.cedar_evaluator.specs.declared.ids.ResidualIds.{ResidualIds}
use Rattle.cedar_evaluator.specs.declared.partial_response.ErrorState.{ErrorState}

-- the ids of those of a group that erred
abbrev pub errored_of : List (Text × (ErrorState × Noted)) → List Text
errored_of es = erring_ids (map (λ e. (e.0, has_erred e.1.0)) es)

abbrev pub errored_ids_left : ErroredIds → List Text
errored_ids_left ids = errored_of (iter_rest ids.permits) ++ errored_of (iter_rest ids.forbids)

abbrev pub residual_ids_left : ResidualIds → List Text
residual_ids_left ids = keys_of (iter_rest ids.permits) ++ keys_of (iter_rest ids.forbids)
