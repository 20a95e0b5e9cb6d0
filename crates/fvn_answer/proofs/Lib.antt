-- Lemmas on lines and answer texts; those on line feeds are for callers.
mod Answering
mod Applying
mod Arranged
mod BoundLines
mod Collecting
pub mod Declared
mod Exchanging
mod Fronts
mod Joining
mod Least
pub mod LineFeeds
mod LineFronts
mod Lists
mod Naming
mod NewFronts
mod NewNames
mod Numbers
mod OneReading
mod Pieces
mod Printable
mod Printing
mod ReadBack
mod ReadLines
mod Rising
mod RisingTexts
mod Searching
mod Sums
mod TextOrder
mod TextPlaces
mod Tokens
mod Tops
mod Turning
mod TwinTexts
mod ValueTexts
mod Variables
