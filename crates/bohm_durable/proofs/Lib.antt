mod Deduped
mod Since
mod Changing
mod Beginning
