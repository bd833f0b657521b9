pub mod Ranges
pub mod BodyLaws
pub mod Sorts
pub mod Cases
pub mod Laws
