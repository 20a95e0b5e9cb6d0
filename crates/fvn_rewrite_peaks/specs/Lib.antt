-- The words of peaks.
pub mod Peaks
pub mod Laws
