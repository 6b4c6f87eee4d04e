pub mod Sameness
pub mod Sounding
pub mod Lub
pub mod Lazies
pub mod Plain
pub mod Attributes
pub mod Containers
pub mod Relations
pub mod Validated
pub mod Deciding
mod Shows
pub mod RowSchemas
pub mod RowTrees
mod ScopeRows
mod AttributeRows
mod OperatorRows
mod ValueRows
mod PremisesMet
pub mod Existing
