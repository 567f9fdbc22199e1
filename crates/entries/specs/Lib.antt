pub mod Named
pub mod Contents
