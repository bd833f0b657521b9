pub mod Cases
pub mod Numbers
