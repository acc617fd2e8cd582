pub mod Joining
mod Mentions
mod Alike
