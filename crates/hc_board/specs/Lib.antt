pub mod Bits
pub mod Able
pub mod Seen
pub mod Answers
pub mod MeetingBoard
pub mod Index
pub mod Deadlines
