pub mod PathCaptures
pub mod PathsAlone
pub mod Templates
