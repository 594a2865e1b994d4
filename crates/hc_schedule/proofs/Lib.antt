pub mod Laws
pub mod Reduction
pub mod ThreadLaws
pub mod Carried
pub mod Alone
pub mod SoloRuns
