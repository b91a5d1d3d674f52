pub mod Alone
pub mod Booked
pub mod Doing
pub mod Lines
pub mod Totalled
