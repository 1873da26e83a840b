pub mod KeyItems
pub mod Kinds
pub mod Reading
pub mod Rows
pub use Rattle.cal_schema.specs.Column
