-- The counters: each is the count of its own frames since the bridge was fresh, modulo 2^64.
pub mod Meaning
