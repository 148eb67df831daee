pub mod DecidedRequests
pub mod KeptRoutes
pub mod Numbers
pub mod ReadRoutes
pub mod WrittenFaults
