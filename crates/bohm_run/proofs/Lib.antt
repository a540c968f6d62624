mod Refusals
mod ChunkLaws
mod StreamLaws
mod AnswerLaws
mod OneAnswer
pub mod ForCallers
