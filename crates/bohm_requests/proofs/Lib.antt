mod Walking
mod Collecting
mod Committing
