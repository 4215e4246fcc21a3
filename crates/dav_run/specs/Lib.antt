pub mod Print
pub mod Script
pub mod Play
pub mod TreeData
