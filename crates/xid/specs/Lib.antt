pub mod Table
pub mod Xid
pub mod Rows
