-- The faults of the definition that errors are, without their places.
use Rattle.std.specs.Prelude.{List, map, option_map}
use Rattle.std.specs.Global.{Vec}
use Rattle.cedar_schema_grammar.specs.Syntax as syntax
use Rattle.cedar_schema_grammar.specs.Faults as grammar
use Rattle.cedar_schema_faults.specs.declared.kinds.ActionReference.{ActionReference}
use Rattle.cedar_schema_faults.specs.declared.kinds.SchemaErrorKind.{SchemaErrorKind}
use Rattle.cedar_schema_faults.specs.declared.kinds.SchemaErrorKind.TheVariants as kinds
use Rattle.cedar_schema_faults.specs.declared.kinds.SchemaError.{SchemaError}

abbrev pub reference_view : ActionReference → syntax.ActionRef
reference_view r = record { type_name = r.type_name; name = r.id }

abbrev pub kind_view : SchemaErrorKind → grammar.SchemaFault
kind_view (kinds.TypeNotDefined n) = grammar.TypeNotDefined n
kind_view (kinds.ActionNotDefined r) = grammar.ActionNotDefined (reference_view r)
kind_view (kinds.CycleInCommonTypeReferences n) = grammar.CycleInCommonTypeReferences n
kind_view (kinds.CycleInActionHierarchy u) = grammar.CycleInActionHierarchy u
kind_view (kinds.DuplicateEntityType n) = grammar.DuplicateEntityType n
kind_view (kinds.DuplicateCommonType n) = grammar.DuplicateCommonType n
kind_view (kinds.DuplicateAction u) = grammar.DuplicateAction u
kind_view (kinds.DuplicateAttribute s) = grammar.DuplicateAttribute s
kind_view (kinds.TypeShadowing n) = grammar.TypeShadowing n
kind_view (kinds.ActionShadowing u) = grammar.ActionShadowing u
kind_view (kinds.ContextOrShapeNotRecord u) = grammar.ContextOrShapeNotRecord u
kind_view (kinds.ActionEntityTypeDeclared n) = grammar.ActionEntityTypeDeclared n
kind_view (kinds.ReservedName n) = grammar.ReservedName n
kind_view (kinds.ReservedNamespace n) = grammar.ReservedNamespace n
kind_view (kinds.EmptyEnum n) = grammar.EmptyEnum n
kind_view (kinds.EmptyAppliesTo u) = grammar.EmptyAppliesTo u
kind_view (kinds.NoPrincipal u) = grammar.NoPrincipal u
kind_view (kinds.NoResource u) = grammar.NoResource u
kind_view (kinds.DuplicatePrincipal u) = grammar.DuplicatePrincipal u
kind_view (kinds.DuplicateResource u) = grammar.DuplicateResource u
kind_view (kinds.DuplicateContext u) = grammar.DuplicateContext u

abbrev pub fault_view : SchemaError → grammar.SchemaFault
fault_view e = kind_view e.kind

abbrev pub faults_view : Vec SchemaError → List grammar.SchemaFault
faults_view es = map fault_view es.items
