mod ByOperand
mod ByOrder
mod BySets
mod ByPart
