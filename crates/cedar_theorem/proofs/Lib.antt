mod Reading
mod Holding
mod Asking
mod Known
mod Laws
