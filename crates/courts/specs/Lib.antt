pub mod Court
pub mod Nights
pub mod Promise
