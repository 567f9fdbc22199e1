pub mod Bars
pub mod Orders
pub mod Come
pub mod Pieces
pub mod Ends
pub mod inner
