pub mod Answers
pub mod Erring
pub mod Laws
pub mod Answering
pub mod Waiting
pub mod Keeping
pub mod TellLaws
pub mod Responses
