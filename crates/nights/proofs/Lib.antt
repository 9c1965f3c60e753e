pub mod One
pub mod Days
pub mod Nightly
pub mod Courts
pub mod Played
pub mod Forever
pub mod Plainly
