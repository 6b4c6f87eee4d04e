mod Handles
mod Values
mod Lent
