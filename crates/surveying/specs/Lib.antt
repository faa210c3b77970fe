-- Document 02, Wish 14: the survey of a site's recordings. Survey has the text that is to be printed, over Counts, Fraction, Start and Lines; Promise what
-- each call returns and leaves in what its caller lends.
pub mod Words
pub mod Counts
pub mod Fraction
pub mod Start
pub mod Lines
pub mod Survey
pub mod Promise
pub mod Steps
pub mod Example
