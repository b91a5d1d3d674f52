pub mod Planned
pub mod Turns
pub mod Worked
