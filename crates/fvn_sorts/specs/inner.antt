-- What the code keeps and searches.
pub mod Searches
pub mod Pairs
