pub mod Parts
pub mod PartsOf
pub mod Text
pub mod Word
pub use Rattle.hc_rational.specs.Words
