pub mod Forms
pub mod Marks
pub mod Entry
pub mod Update
pub mod Sweep
pub mod Runs
pub mod Switching
pub mod code
