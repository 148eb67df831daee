pub mod PolicyTrees
pub mod PolicyViews
pub mod ReadPolicies
