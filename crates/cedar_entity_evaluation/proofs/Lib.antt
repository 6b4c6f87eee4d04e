mod Giving
mod Refusing
mod Joined
