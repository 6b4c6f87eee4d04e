mod EqualEntries
pub mod KnownData
mod Making
mod Mistyping
pub mod PutIn
mod RecordsStay
mod Refusing
mod StayingContexts
mod ToldAnswers
mod ToldRecords
mod Untyped
pub mod Waiting
mod WrittenEntries
