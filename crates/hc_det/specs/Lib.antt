pub mod Single
pub mod Lists
pub mod Text
pub mod Laws
