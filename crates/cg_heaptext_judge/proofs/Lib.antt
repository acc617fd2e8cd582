mod Answering
mod Applying
mod Entered
mod Listing
mod Plain
mod There
