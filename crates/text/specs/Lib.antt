-- Texts: numbers in digits, words behind spaces, and a text of fixed size as it grows.
pub mod Numerals
pub mod Words
pub mod Text
