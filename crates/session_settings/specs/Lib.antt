pub mod Reading
pub mod ServerLine
pub mod SessionLine
pub mod SessionOption
pub mod Settings
