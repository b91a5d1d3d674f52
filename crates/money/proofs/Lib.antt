pub mod Codes
pub mod Cuts
pub mod Numbers
pub mod Signs
pub mod Texts
pub mod Units
