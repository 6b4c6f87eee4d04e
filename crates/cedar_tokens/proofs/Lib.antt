pub mod Rests
pub mod Runs
mod Blanks
mod OtherWords
mod MarkReading
mod Insides
pub mod Ascii
mod KindReading
mod Reading
mod Unread
mod PartReading
mod Unescaping
mod Any
mod Bits
