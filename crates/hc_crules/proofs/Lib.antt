mod Callees
mod Added
