mod Tables
mod Loops
