-- Types allow none of these kinds.
use Rattle.cedar_language.specs.Value.{TypeError, RecordAttrDoesNotExist, EntityAttrDoesNotExist, WrongNumArguments, FailedExtensionFunctionLookup, UnlinkedSlot, NonValue}
use Rattle.cedar_typing.proofs.Validated.{never_errs_by}
use Rattle.cedar_typing.proofs.valid_policies_never_err_by.Goals as goal

pub returns-clause-type_error : goal.returns-clause-type_error
returns-clause-type_error c = never_errs_by TypeError (λ h. h) c.sets_are_finite.ensures

pub returns-clause-record_attribute : goal.returns-clause-record_attribute
returns-clause-record_attribute c = never_errs_by RecordAttrDoesNotExist (λ h. h) c.sets_are_finite.ensures

pub returns-clause-entity_attribute : goal.returns-clause-entity_attribute
returns-clause-entity_attribute c = never_errs_by EntityAttrDoesNotExist (λ h. h) c.sets_are_finite.ensures

pub returns-clause-arguments : goal.returns-clause-arguments
returns-clause-arguments c = never_errs_by WrongNumArguments (λ h. h) c.sets_are_finite.ensures

pub returns-clause-function : goal.returns-clause-function
returns-clause-function c = never_errs_by FailedExtensionFunctionLookup (λ h. h) c.sets_are_finite.ensures

pub returns-clause-slot : goal.returns-clause-slot
returns-clause-slot c = never_errs_by UnlinkedSlot (λ h. h) c.sets_are_finite.ensures

pub returns-clause-unknown : goal.returns-clause-unknown
returns-clause-unknown c = never_errs_by NonValue (λ h. h) c.sets_are_finite.ensures
