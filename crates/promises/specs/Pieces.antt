-- An input may come in pieces, wherever they are cut.
pub mod Meaning
