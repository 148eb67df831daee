pub mod Credentials
pub mod Deciding
pub mod Excess
pub mod Shared
