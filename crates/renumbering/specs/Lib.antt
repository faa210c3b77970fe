-- Renumbering the ports of the tables, section by section.
pub mod Calls
pub mod Renamed
