-- The flags: once set, one stands until a taken clear of that very flag, and such a clear puts it down.
pub mod Meaning
