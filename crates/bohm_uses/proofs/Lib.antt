mod Agreeing
mod Reading
mod Segments
