pub mod PolicyCommands
pub mod PolicyFiles
