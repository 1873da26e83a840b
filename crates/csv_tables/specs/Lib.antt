pub mod Field
pub mod Header
pub mod Left
pub mod Parts
pub mod Table
