pub mod Prime
pub mod Counting
pub mod Polynomial
pub mod Sharing
pub mod Laws
