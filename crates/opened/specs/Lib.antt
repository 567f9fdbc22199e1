pub mod Fronts
pub mod Begun
pub mod Brackets
pub mod Former
pub mod Walks
pub mod Opens
