mod Meeting
mod Walk
mod Cells
mod Picks
mod Ends
