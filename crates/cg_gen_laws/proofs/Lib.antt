mod Answering
mod Entered
mod Going
mod Listed
mod Once
