pub mod Rules
pub mod Worked
