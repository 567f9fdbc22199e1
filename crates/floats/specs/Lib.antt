pub mod Classes
pub mod Grammar
pub mod Judged
pub mod Float
