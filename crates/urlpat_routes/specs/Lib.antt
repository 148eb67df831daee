pub mod RouteCommands
pub mod RouteFiles
pub mod RouteUses
