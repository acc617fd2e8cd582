mod Fronts
mod Lines
mod Names
mod Readings
mod Sources
mod Steps
