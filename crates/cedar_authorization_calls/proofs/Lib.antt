mod Listing
mod Going
mod Erring
