pub mod Called
pub mod Growing
pub mod Forms
pub mod Making
