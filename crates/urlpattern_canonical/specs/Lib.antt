pub mod RejectedAs
pub mod BaseUrls
pub mod Canonical
