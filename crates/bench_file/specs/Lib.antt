pub mod Header
pub mod Records
pub mod Settings
pub mod Absent
pub mod code
