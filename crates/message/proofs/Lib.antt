mod Rows
mod Parses
