pub mod Books
pub mod Chairs
pub mod Questions
pub mod Reaching
pub mod Seatings
pub mod Standing
pub mod Views
