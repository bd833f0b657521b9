pub mod Laws
pub mod SearchLaws
pub mod SeekLaws
