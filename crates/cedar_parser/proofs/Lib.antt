mod Lowness
mod Texts
mod Faults
mod Reading
mod NoSlots
mod Bodies
mod Callers
mod Operands
