pub mod Format
pub mod Steps
