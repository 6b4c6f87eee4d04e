pub mod Extensions
pub use Rattle.cedar_names.specs.Identifiers
pub use Rattle.cedar_names.specs.Names
pub use Rattle.cedar_names.specs.Reading as NameReading
pub use Rattle.cedar_names.specs.Converting as NameConverting
pub use Rattle.cedar_names.specs.Laws as NameLaws
pub use Rattle.cedar_literals.specs.Uids
pub use Rattle.cedar_literals.specs.Slots
pub use Rattle.cedar_literals.specs.Escapes
pub use Rattle.cedar_literals.specs.Reading as UidReading
pub use Rattle.cedar_literals.specs.Laws as UidLaws
pub use Rattle.cedar_names.specs.Raw
pub use Rattle.cedar_literals.specs.Literals
pub use Rattle.cedar_literals.specs.Matching
pub use Rattle.cedar_literals.specs.Operators
pub use Rattle.cedar_literals.specs.Patterns
pub use Rattle.cedar_literals.specs.Types
pub use Rattle.cedar_literals.specs.Variables
pub use Rattle.cedar_values.specs.Extensions as ExtensionValues
pub use Rattle.cedar_values.specs.Representations
pub use Rattle.cedar_values.specs.Texts as ValueTexts
pub use Rattle.cedar_values.specs.Hashes as ValueHashes
pub use Rattle.cedar_values.specs.Kinds
pub use Rattle.cedar_values.specs.Laws as ValueLaws
pub use Rattle.cedar_values.specs.Occurring
pub use Rattle.cedar_values.specs.Orders as ValueOrders
pub use Rattle.cedar_values.specs.Readers as ValueReaders
pub use Rattle.cedar_values.specs.Records as ValueRecords
pub use Rattle.cedar_values.specs.Types as ValueTypes
pub use Rattle.cedar_trees.specs.Bare
pub use Rattle.cedar_trees.specs.Records
pub use Rattle.cedar_trees.specs.Shapes
pub use Rattle.cedar_trees.specs.Unknowns
pub use Rattle.cedar_builders.specs.Operations
pub use Rattle.cedar_builders.specs.Own
pub use Rattle.cedar_shapes.specs.Leaves
pub use Rattle.cedar_shapes.specs.Parts
pub use Rattle.cedar_shapes.specs.PartsLeft
pub use Rattle.cedar_shapes.specs.Positions
pub use Rattle.cedar_shapes.specs.PositionsLeft
pub use Rattle.cedar_shapes.specs.ShapeHash
pub use Rattle.cedar_shapes.specs.ShapeLaws
pub use Rattle.cedar_shapes.specs.ShapeOrder
pub use Rattle.cedar_shapes.specs.ShapesOnly
pub use Rattle.cedar_shapes.specs.StaticTypes
pub use Rattle.cedar_restricted.specs.Expressing
pub use Rattle.cedar_restricted.specs.Laws as PartialValueLaws
pub use Rattle.cedar_restricted.specs.PartialValues
pub use Rattle.cedar_restricted.specs.Reading as ValueReading
pub use Rattle.cedar_restricted.specs.Splitting
pub use Rattle.cedar_substitution.specs.Chains
pub use Rattle.cedar_substitution.specs.Laws as SubstitutionLaws
pub use Rattle.cedar_substitution.specs.Rising
pub use Rattle.cedar_substitution.specs.Told
pub use Rattle.cedar_substitution.specs.Typed
pub use Rattle.cedar_restricted.specs.Converting
pub use Rattle.cedar_restricted.specs.Left
pub use Rattle.cedar_restricted.specs.Offences
pub use Rattle.cedar_restricted.specs.Readers
pub use Rattle.cedar_restricted.specs.Sameness as PartialValueSameness
pub use Rattle.cedar_restricted.specs.ShapesOnly as RestrictedShapesOnly
pub use Rattle.cedar_restricted.specs.Views
pub use Rattle.cedar_extensions.specs.Answering as FunctionAnswering
pub use Rattle.cedar_extensions.specs.Causes
pub use Rattle.cedar_extensions.specs.Failures
pub use Rattle.cedar_extensions.specs.Giving
pub use Rattle.cedar_extensions.specs.Residuals
pub use Rattle.cedar_extensions.specs.Collecting
pub use Rattle.cedar_extensions.specs.Defining
pub use Rattle.cedar_extensions.specs.Functions
pub use Rattle.cedar_extensions.specs.Holding
pub use Rattle.cedar_extensions.specs.Lookups
pub use Rattle.cedar_extensions.specs.TableRefusals as TableRefusals
pub use Rattle.cedar_extensions.specs.Tables
pub use Rattle.cedar_restricted_evaluation.specs.Built
pub use Rattle.cedar_restricted_evaluation.specs.Evaluations
pub use Rattle.cedar_extensions.specs.Calls
pub use Rattle.cedar_extensions.specs.ValidationRefusals as Validating
