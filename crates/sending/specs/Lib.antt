pub mod Message
pub mod Send
pub mod code
