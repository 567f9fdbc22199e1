pub mod DepthLaws
pub mod DepthMeans
