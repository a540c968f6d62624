mod CutLaws
mod InOrderLaws
mod PieceLaws
mod ReadingLaws
mod SegmentLaws
pub mod ForCallers
