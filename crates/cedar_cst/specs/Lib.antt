pub mod Nodes
pub mod LeafView
pub mod Slots
pub mod View
