pub mod Sections
pub mod Threads
pub mod Schedule
pub mod Solo
