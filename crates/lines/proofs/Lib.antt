pub mod Form
pub mod Laws
pub mod Room
pub mod Worked
