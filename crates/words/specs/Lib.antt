pub mod Dash
pub mod Digit
pub mod Number
pub mod Hex
pub mod Small
pub mod Numbers
pub mod Split
pub mod Said
