pub mod LineComplete
pub mod LineSound
pub mod RightComplete
pub mod RightSound
pub mod Shut
pub mod Viable
