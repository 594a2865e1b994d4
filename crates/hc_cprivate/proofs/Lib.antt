pub mod Private
pub mod Bodies
