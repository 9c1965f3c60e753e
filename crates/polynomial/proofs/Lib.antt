mod Calls
mod Horner
mod Places
mod Sums
mod Rows
mod Texts
