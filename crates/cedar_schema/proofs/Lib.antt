mod Puts
pub mod Tabled
pub mod TypeViews
mod Walking
pub mod Within
mod WrittenBy
