pub mod Faults
pub mod PatternOffsets
pub mod Spans
pub mod Subjects
