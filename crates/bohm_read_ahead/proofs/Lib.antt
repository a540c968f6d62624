mod AheadLaws
mod Samples
