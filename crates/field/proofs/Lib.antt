mod Halves
mod Euclid
mod Power
