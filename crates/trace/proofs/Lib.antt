mod Bits
mod Headings
mod Rooms
mod Readings
mod Coursing
mod Playing
