mod Steps
mod Questions
mod Doing
mod Commanding
