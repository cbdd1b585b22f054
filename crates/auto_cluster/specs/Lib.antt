pub mod Clustering
pub mod Finding
pub mod Laws
pub mod Links
pub mod Significant
