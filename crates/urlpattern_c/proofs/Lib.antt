mod Crossing
mod Values
