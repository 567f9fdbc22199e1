pub mod Written
pub mod Refused
pub mod Accepted
