mod Words
mod Sizes
mod NameBytes
mod Fronts
mod FrontWords
mod Marks
