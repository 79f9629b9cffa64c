pub mod Forms
pub mod Stated
pub mod Grammar
pub mod Texts
