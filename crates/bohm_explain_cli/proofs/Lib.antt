mod Refusals
mod Readings
