pub mod EndAround
