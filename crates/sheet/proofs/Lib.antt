mod Groups
mod Beginnings
mod Places
mod Coded
mod Slots
mod Readings
mod Spelled
mod Progress
mod Decoding
mod Readers
mod NumberReader
mod SlotReader
pub mod LabelReader
mod LineReader
mod HeadingReader
mod Drawable
mod DrawingReader
mod SheetReader
pub mod RoundTrips
mod Sizes
mod Fronts
mod Tellings
mod Flat
mod Records
mod Indices
mod Texts
