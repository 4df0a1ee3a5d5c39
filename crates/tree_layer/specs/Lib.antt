pub mod BootTree
pub mod TreeRows
pub mod TreePicture
pub mod TreeTable
