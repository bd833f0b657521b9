-- The flags: once set, one stands until a taken clear of that very flag, and such a clear puts it down.
pub mod Standing
pub mod Oversize
pub mod Gates
pub mod Red
pub mod RedSetUp
pub mod Lifted
pub mod Runs
