mod Filled
mod Early
mod PremisesMet
