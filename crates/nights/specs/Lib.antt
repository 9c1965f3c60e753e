pub mod Run
pub mod Nights
pub mod Promise
