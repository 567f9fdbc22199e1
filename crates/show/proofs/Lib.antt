pub mod ContentsLaws
pub mod HexLaws
pub mod ManyLaws
pub mod ShownLaws
pub mod SignLaws
