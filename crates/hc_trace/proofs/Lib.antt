pub mod Cuts
pub mod EndsTable
pub mod Events
pub mod Headers
mod LineLemmas
pub mod OneTrace
pub mod RangeLemmas
pub mod Refusals
pub mod RowsOfText
pub mod Spelling
pub mod UnderWay
pub mod WrittenTrace
