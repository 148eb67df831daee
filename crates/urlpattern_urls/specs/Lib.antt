pub mod CommonUrls
pub mod Unlike
pub mod UrlReaching
