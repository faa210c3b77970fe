-- Laws of the widths, of older editions' forms, and of a file of any edition as today's tables; and an edition that there never was.
pub mod Widths
pub mod RecordLaws
pub mod Alike
pub mod Rooms
pub mod PortSizes
pub mod EachBrings
pub mod EditionLaws
pub mod Grown
