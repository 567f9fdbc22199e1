pub mod ShapeLaws
pub mod TokenLaws
pub mod RonLaws
