pub mod Words
pub mod Width
pub mod Front
pub mod Integer
pub mod Range
