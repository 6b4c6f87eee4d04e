pub mod ErringIds
pub mod Gathered
pub mod Lists
pub mod Rising
pub mod Sets
pub mod Sorting
