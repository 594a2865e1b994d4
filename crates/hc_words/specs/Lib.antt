pub mod Line
pub mod Actions
pub mod Numbers
pub mod Requests
pub mod Seen
pub mod Order
pub mod Laws
