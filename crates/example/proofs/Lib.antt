pub mod Captured
pub mod ExampleCopies
pub mod UserUrls
pub mod OrderUrls
pub mod DocsUrls
